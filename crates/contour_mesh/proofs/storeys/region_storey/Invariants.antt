use Rattle.std.proofs.Common.{◌≡◌, map, take}
use Rattle.mesh_types.specs.Storeys.{row_of}
use Rattle.contour_mesh.proofs.storeys.region_storey.Given as goal

-- the rows of the strips so far
abbrev pub invariant-loop-k : goal.invariant-loop-k
invariant-loop-k l = l.rows.items ≡ map (row_of l.cells) (take l.k l.region.strips)
