use Rattle.std.proofs.Common.{refl}
use Rattle.corridor_search.specs.Changes.{IsGentleInto}
use Rattle.corridor_search.proofs.EachLink.{one-more}
use Rattle.corridor_search.proofs.changed.are_gentle_into.Goals as goal

pub loop-link-preserved : goal.loop-link-preserved
loop-link-preserved c =
    one-more (IsGentleInto c.args.mesh.now c.args.marks.now c.args.tile) c.args.links.now c.loop-link.link-index _ c.loop-link-test.true c.loop-link.invariant
    (c.if-not-is_gentle_into.ensures refl)
