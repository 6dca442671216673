use Rattle.std.proofs.Common.{◌*◌}
use Rattle.nav_ground.specs.Tiling.{tiles_in_row}
use Rattle.mesh_locate.specs.Nearest.{IsNearestBefore}
use Rattle.mesh_locate.proofs.nearest.locate.Given as goal

-- the nearest of the rows so far
abbrev pub invariant-loop-row : goal.invariant-loop-row
invariant-loop-row l = IsNearestBefore l.mesh l.p l.y (l.row * tiles_in_row l.mesh.setting) 0 l.nearest
