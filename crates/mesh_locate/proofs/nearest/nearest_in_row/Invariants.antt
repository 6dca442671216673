use Rattle.std.proofs.Common.{◌+◌, ◌*◌}
use Rattle.nav_ground.specs.Tiling.{tiles_in_row}
use Rattle.mesh_locate.specs.Nearest.{IsNearestBefore}
use Rattle.mesh_locate.proofs.nearest.nearest_in_row.Given as goal

-- the nearest of the tiles so far
abbrev pub invariant-loop-column : goal.invariant-loop-column
invariant-loop-column l = IsNearestBefore l.mesh l.sought.p l.sought.y (l.row * tiles_in_row l.mesh.setting + l.column) 0 l.nearest
