use Rattle.std.proofs.Common.{◌≡◌, ◌-◌, map}
use Rattle.std.specs.List.{range_with_len}
use Rattle.mesh_types.specs.Contours.{cell_in}
use Rattle.mesh_types.specs.Regions.{place_in}
use Rattle.contour_mesh.proofs.storeys.floor_row.Given as goal

-- the floors of the columns so far
abbrev pub invariant-loop-x : goal.invariant-loop-x
invariant-loop-x l = l.floors.items ≡ map (λ x. (cell_in l.cells (place_in l.strip x)).floor) (range_with_len l.strip.x0 (l.x - l.strip.x0))
