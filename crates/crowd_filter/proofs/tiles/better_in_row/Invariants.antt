use Rattle.nav_ground.specs.Tiling.{tiles_in_row}
use Rattle.crowd_filter.specs.Placing.{IsInColumns, IsSearchedAmong}
use Rattle.crowd_filter.proofs.tiles.better_in_row.Given as goal

-- the tiles so far
abbrev pub invariant-loop-column : goal.invariant-loop-column
invariant-loop-column l = IsSearchedAmong l.mesh l.agent (IsInColumns (tiles_in_row l.mesh.setting) l.row l.fn.columns.first l.column) l.fn.had l.found
