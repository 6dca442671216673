use Rattle.mesh_place.specs.Searches.{IsFoundNear, IsInRow}
use Rattle.mesh_place.proofs.storey_scan.in_row.Given as goal

-- what was found of the columns so far
abbrev pub invariant-loop-x : goal.invariant-loop-x
invariant-loop-x l = IsFoundNear l.mesh l.search l.fn.best l.nearest (IsInRow l.row l.part.at l.z l.x)
