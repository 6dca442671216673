use Rattle.mesh_types.specs.declared.storeys.MeshPlace.{MeshPlace}
use Rattle.mesh_place.specs.Searches.{IsFoundAmong}
use Rattle.mesh_place.specs.Tiles.{IsInTileRows, IsNearBy}
use Rattle.mesh_place.proofs.tiles.in_tile_rows.Given as goal

-- what was found of the rows of tiles so far
abbrev pub invariant-loop-row : goal.invariant-loop-row
invariant-loop-row l =
    IsFoundAmong l.mesh l.asked l.fn.best l.nearest (λ (other : MeshPlace). IsInTileRows l.mesh l.row other × IsNearBy l.asked l.around other)
