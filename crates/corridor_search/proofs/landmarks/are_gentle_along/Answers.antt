use Rattle.std.proofs.Common.{refl}
use Rattle.corridor_search.specs.Landmarks.{IsGentle}
use Rattle.corridor_search.proofs.EachLink.{one-more}
use Rattle.corridor_search.proofs.landmarks.are_gentle_along.Goals as goal

pub loop-link-preserved : goal.loop-link-preserved
loop-link-preserved c =
    one-more (IsGentle c.args.mesh.now c.args.marks.now) c.args.links.now c.loop-link.link-index _ c.loop-link-test.true c.loop-link.invariant
    (c.if-not-is_gentle.ensures refl)
