use Rattle.std.proofs.Common.{ℕ, ◌+◌, ◌*◌, ap, arith}
use Rattle.nav_ground.specs.Tiling.{tiles_in_row}
use Rattle.crowd_filter.proofs.PlacingLaws.{row_more}
use Rattle.crowd_filter.proofs.tiles.better_in_row.Goals as goal

pub loop-column-preserved : goal.loop-column-preserved
loop-column-preserved c =
    let width : ℕ = tiles_in_row c.args.mesh.now.setting in
    let row = ap (λ (n : ℕ). c.args.row * n) c.div_ceil.ensures in
    row_more c.args.mesh.now c.args.agent.now width c.args.row c.args.columns.first c.loop-column.column (c.args.row * c.div_ceil.result + c.loop-column.column) c.args.had
    c.loop-column.found c.better_in_tile-found.result (omega (arith, row)) c.loop-column.invariant c.better_in_tile-found.ensures
