-- Spots: the cells of the storeys of open areas, tile by tile, storey by storey, row by row.
use Rattle.std.specs.Prelude.{ℕ, ◌<◌, if◌then◌else◌, List, [], map, sum_by, flat_map}
use Rattle.std.specs.List.{enumerate_from}
use Rattle.mesh_types.specs.declared.mesh.Mesh.{Mesh}
use Rattle.mesh_types.specs.declared.mesh.TileMesh.{TileMesh}
use Rattle.mesh_types.specs.declared.storeys.FloorRow.{FloorRow}
use Rattle.mesh_types.specs.declared.storeys.Storey.{Storey}
use Rattle.mesh_types.specs.Reaches.{cell_count}
use Rattle.mesh_place.specs.Nearest.{is_open}
use Rattle.random_place.specs.declared.spots.Home.{Home}
use Rattle.random_place.specs.declared.spots.StoreyCell.{StoreyCell}

-- the spots of a row of a storey, column by column
abbrev pub row_spots : Home → ℕ → FloorRow → List StoreyCell
row_spots home z row =
    map (λ (cell : ℕ × ℕ). record { tile = home.tile; storey = home.storey; x = cell.0; z = z; floor = cell.1 }) (enumerate_from row.x0 row.floors)

-- those of a storey, row by row
abbrev pub storey_spots : Home → Storey → List StoreyCell
storey_spots home storey = flat_map (λ (row : ℕ × FloorRow). row_spots home row.0 row.1) (enumerate_from storey.z0 storey.rows)

-- those of a storey if its area is open
abbrev pub open_spots : ℕ → Home → Storey → List StoreyCell
open_spots areas home storey = if is_open areas storey.area then storey_spots home storey else []

-- those of the storeys of a tile
abbrev pub tile_spots : ℕ → ℕ → List Storey → List StoreyCell
tile_spots areas tile storeys =
    flat_map (λ (storey : ℕ × Storey). open_spots areas (record { tile = tile; storey = storey.0 }) storey.1) (enumerate_from 0 storeys)

-- those of a mesh
unfoldable pub spots_of : Mesh → ℕ → List StoreyCell
spots_of mesh areas = flat_map (λ (tile : ℕ × TileMesh). tile_spots areas tile.0 tile.1.storeys.list) (enumerate_from 0 mesh.tiles)

-- how many cells of a storey are spots, and how many spots storeys and tiles have
abbrev pub open_cells : ℕ → Storey → ℕ
open_cells areas storey = if is_open areas storey.area then cell_count storey else 0

abbrev pub open_cells_in : ℕ → List Storey → ℕ
open_cells_in areas storeys = sum_by (open_cells areas) storeys

abbrev pub spot_count : ℕ → List TileMesh → ℕ
spot_count areas tiles = sum_by (λ (tile : TileMesh). open_cells_in areas tile.storeys.list) tiles

-- a spot lies in the largest field
pub record IsInField (spot : StoreyCell) : Type 0 where
  pub across : spot.x < 1024
  pub along : spot.z < 1024
