use Rattle.std.proofs.Common.{ℕ}
use Rattle.std.specs.Prelude.{None}
use Rattle.nav_ground.specs.Tiling.{tiles_in_row}
use Rattle.crowd_filter.proofs.PlacingLaws.{rows_more}
use Rattle.crowd_filter.proofs.tiles.best_in_rows.Goals as goal

pub loop-row-preserved : goal.loop-row-preserved
loop-row-preserved c =
    let width : ℕ = tiles_in_row c.args.mesh.now.setting in
    rows_more c.args.mesh.now c.args.agent.now width c.args.rows.first c.loop-row.row c.args.columns.first c.args.columns.end None c.loop-row.found
    c.better_in_row-found.result c.loop-row.invariant c.better_in_row-found.ensures
