use Rattle.std.proofs.Common.{refl}
use Rattle.shortest_line.proofs.WalkLaws.{walks_on}
use Rattle.shortest_line.proofs.walks.is_walk.Goals as goal

pub loop-link-preserved : goal.loop-link-preserved
loop-link-preserved c =
    walks_on c.args.mesh.now c.args.first c.loop-link.at c.args.links.now c.loop-link.link-index _ c.loop-link-test.true c.loop-link.invariant
    (c.if-not-goes_on.ensures.listed refl) (c.if-not-goes_on.ensures.leaves refl)
