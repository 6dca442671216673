use Rattle.mesh_types.specs.declared.storeys.MeshPlace.{MeshPlace}
use Rattle.mesh_place.specs.Bounds.{IsNearTo}
use Rattle.mesh_place.specs.Searches.{IsFoundAmong}
use Rattle.mesh_place.proofs.TileScan.{IsEarlier}
use Rattle.mesh_place.proofs.scan.in_tile.Given as goal

-- what was found of the polygons so far
abbrev pub invariant-loop-i : goal.invariant-loop-i
invariant-loop-i l =
    IsFoundAmong l.mesh l.asked l.fn.best l.nearest (λ (other : MeshPlace). IsEarlier l.tile l.i other × IsNearTo l.asked l.square.reach other)
