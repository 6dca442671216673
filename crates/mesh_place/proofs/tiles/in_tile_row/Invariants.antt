use Rattle.mesh_types.specs.declared.storeys.MeshPlace.{MeshPlace}
use Rattle.mesh_place.specs.Searches.{IsFoundAmong}
use Rattle.mesh_place.specs.Tiles.{IsInTileRow, IsNearBy}
use Rattle.mesh_place.proofs.tiles.in_tile_row.Given as goal

-- what was found of the columns so far
abbrev pub invariant-loop-column : goal.invariant-loop-column
invariant-loop-column l =
    IsFoundAmong l.mesh l.asked l.fn.best l.nearest (λ (other : MeshPlace). IsInTileRow l.mesh l.row l.column other × IsNearBy l.asked l.around other)
