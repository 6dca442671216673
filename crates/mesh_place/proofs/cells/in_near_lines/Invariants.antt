use Rattle.mesh_types.specs.declared.storeys.MeshPlace.{MeshPlace}
use Rattle.mesh_place.specs.Bounds.{IsNearTo}
use Rattle.mesh_place.specs.Searches.{IsFoundNear, IsInLines}
use Rattle.mesh_place.proofs.cells.in_near_lines.Given as goal

-- what was found of the lines so far
abbrev pub invariant-loop-z : goal.invariant-loop-z
invariant-loop-z l =
    IsFoundNear l.mesh l.search l.fn.best l.nearest (λ (other : MeshPlace). IsInLines l.part l.cell l.z other × IsNearTo l.search.asked l.fn.reach other)
