use Rattle.std.proofs.Common.{refl}
use Rattle.corridor_search.specs.Changes.{AreGentleAround}
use Rattle.corridor_search.proofs.EachLink.{one-more}
use Rattle.corridor_search.proofs.changed.are_gentle_around.Goals as goal

pub loop-tile-preserved : goal.loop-tile-preserved
loop-tile-preserved c =
    one-more (AreGentleAround c.args.mesh.now c.args.marks.now) c.args.tiles.now c.loop-tile.tile-index _ c.loop-tile-test.true c.loop-tile.invariant
    (c.if-not-is_gentle_around.ensures refl)
