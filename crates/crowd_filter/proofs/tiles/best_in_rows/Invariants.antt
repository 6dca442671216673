use Rattle.std.specs.Prelude.{None}
use Rattle.nav_ground.specs.Tiling.{tiles_in_row}
use Rattle.crowd_filter.specs.Placing.{IsInRows, IsSearchedAmong}
use Rattle.crowd_filter.proofs.tiles.best_in_rows.Given as goal

-- the rows so far
abbrev pub invariant-loop-row : goal.invariant-loop-row
invariant-loop-row l = IsSearchedAmong l.mesh l.agent (IsInRows (tiles_in_row l.mesh.setting) l.fn.rows.first l.row l.columns.first l.columns.end) None l.found
