use Rattle.std.proofs.Common.{◌≡◌, ◌++◌, map, take}
use Rattle.mesh_types.specs.Words.{floor_of}
use Rattle.nav_query.proofs.rays.push_floors.Given as goal

-- the floors of the cells so far were appended
abbrev pub invariant-loop-cell : goal.invariant-loop-cell
invariant-loop-cell l = l.floors.items ≡ l.fn.floors.items ++ map floor_of (take l.cell-index l.cells)
