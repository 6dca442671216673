-- Tiles: those that have a place within reach of what is asked, row by row.
use Rattle.std.specs.Prelude.{◌≡◌, ℕ, ◌+◌, ◌*◌, ◌/◌, ◌%◌, ◌<◌, ◌≤◌}
use Rattle.nav_base.specs.Deviation.{square_of}
use Rattle.nav_base.specs.Point.{from_to}
use Rattle.nav_ground.specs.Tiling.{tiles_in_row, tile_rows}
use Rattle.mesh_types.specs.declared.mesh.Mesh.{Mesh}
use Rattle.mesh_types.specs.declared.storeys.MeshPlace.{MeshPlace}
use Rattle.mesh_types.specs.Places.{Stands}
use Rattle.mesh_place.specs.declared.near.Near.{Near}
use Rattle.mesh_place.specs.declared.columns.ReachEnds.{ReachEnds}
use Rattle.mesh_place.specs.declared.tiles.TileRange.{TileRange}
use Rattle.mesh_place.specs.declared.tiles.TilesAround.{TilesAround}

-- a coordinate within such ends, on the closed side of the tile at a place along one axis
pub record AreWithin (reach : ReachEnds) (side place m : ℕ) : Type 0 where
  pub low : reach.low ≤ m
  pub high : m ≤ reach.high
  pub begins : side * place ≤ m
  pub ends : m ≤ side * (place + 1)

-- a tile's place along one axis is one of some
pub record IsInRange (range : TileRange) (place : ℕ) : Type 0 where
  pub first : range.first ≤ place
  pub end : place < range.end

-- a place is within the reach of some tiles
abbrev pub IsNearBy : Near → TilesAround → MeshPlace → Type 0
IsNearBy asked around place = square_of (from_to asked.point place.point) ≤ around.reach * around.reach

-- every place that stands within a reach lies in a tile in one of these rows and columns of tiles
pub record AreTilesAround (mesh : Mesh) (asked : Near) (around : TilesAround) : Type 0 where
  pub rows_order : around.rows.first ≤ around.rows.end
  pub rows_inside : around.rows.end ≤ tile_rows mesh.setting
  pub columns_order : around.columns.first ≤ around.columns.end
  pub columns_inside : around.columns.end ≤ tiles_in_row mesh.setting
  pub rows : (other : MeshPlace) → Stands mesh other → IsNearBy asked around other → IsInRange around.rows (other.polygon.tile / tiles_in_row mesh.setting)
  pub columns : (other : MeshPlace) → Stands mesh other → IsNearBy asked around other
      → IsInRange around.columns (other.polygon.tile % tiles_in_row mesh.setting)

-- a place in a row of tiles, in a column before one
pub record IsInTileRow (mesh : Mesh) (row end : ℕ) (place : MeshPlace) : Type 0 where
  pub row_is : place.polygon.tile / tiles_in_row mesh.setting ≡ row
  pub before : place.polygon.tile % tiles_in_row mesh.setting < end

-- a place in a row of tiles before one
abbrev pub IsInTileRows : Mesh → ℕ → MeshPlace → Type 0
IsInTileRows mesh end place = place.polygon.tile / tiles_in_row mesh.setting < end
