use Rattle.std.proofs.Common.{◌≡◌, take}
use Rattle.std.specs.List.{flat_map}
use Rattle.contour_mesh.specs.SidePlaces.{cell_places}
use Rattle.contour_mesh.proofs.crossings.placed_cells.Given as goal

-- the places of the cells so far
abbrev pub invariant-loop-index : goal.invariant-loop-index
invariant-loop-index l = l.placed.items ≡ flat_map (cell_places l.table.window l.regions) (take l.index l.cells)
