use Rattle.std.proofs.Common.{true, sym, ◌∙◌}
use Rattle.tile_links.proofs.KeptLinks.{no_more_side, one_more_side}
use Rattle.tile_changes.specs.Telling.{is_touched}
use Rattle.tile_changes.proofs.tiles.touched_tiles.Goals as goal
use Rattle.tile_changes.proofs.tiles.touched_tiles.Goals.{then-is_touched+in_ok-push, else-is_touched}

pub loop-tile-preserved : goal.loop-tile-preserved
loop-tile-preserved c =
    let touched = is_touched c.args.setting.now c.args.shapes.now in
    elim c.if-is_touched.branch [
      | then-is_touched+in_ok-push w ↦
          rw (w.list-is, w.in_ok-push.ensures.items)
          (one_more_side touched c.loop-tile.tile true c.loop-tile.list.items c.loop-tile.invariant (sym c.is_touched.ensures ∙ w.if-is_touched.true))
      | else-is_touched w ↦
          rw w.list-is
          (no_more_side touched c.loop-tile.tile c.loop-tile.list.items c.loop-tile.invariant (sym c.is_touched.ensures ∙ w.if-is_touched.false))
    ]
