use Rattle.mesh_place.specs.Searches.{IsFoundNear, IsInRows}
use Rattle.mesh_place.proofs.storey_scan.in_storey.Given as goal

-- what was found of the rows so far
abbrev pub invariant-loop-z : goal.invariant-loop-z
invariant-loop-z l = IsFoundNear l.mesh l.search l.fn.best l.nearest (IsInRows l.storey l.part.at l.z)
