-- Storeys: the cells of each region or strip of a tile, row by row, with their floors.
use Rattle.std.specs.Prelude.{◌≡◌, ℕ, ◌+◌, ◌-◌, ◌<◌, ◌≤◌, List, [], ◌∷◌, length, map, get_or, All, Some, slice_get}
use Rattle.nav_ground.specs.declared.cell.Cell.{Cell}
use Rattle.nav_ground.specs.Limits.{IsArea}
use Rattle.mesh_types.specs.declared.region.Strip.{Strip}
use Rattle.mesh_types.specs.declared.region.Region.{Region}
use Rattle.mesh_types.specs.declared.storeys.FloorRow.{FloorRow}
use Rattle.mesh_types.specs.declared.storeys.Storey.{Storey}
use Rattle.mesh_types.specs.StripPolygons.{first_of}
use Rattle.mesh_types.specs.Regions.{place_in}
use Rattle.mesh_types.specs.Contours.{cell_in, columns}

-- the storeys of a tile, and for each of its polygons the place of its storey among them
pub record TileStoreys : Type 0 where
  pub homes : List ℕ
  pub list : List Storey

-- the storeys of a tile without polygons
abbrev pub no_storeys : TileStoreys
no_storeys = record { homes = []; list = [] }

-- a strip that stands for none
abbrev pub no_strip : Strip
no_strip = record { z = 0; x0 = 0; x1 = 0; levels = []; area = 0 }

-- the row of a strip: the floors of its cells, column by column
abbrev pub row_of : List Cell → Strip → FloorRow
row_of cells strip = record { x0 = strip.x0; floors = map (λ x. (cell_in cells (place_in strip x)).floor) (columns strip) }

-- the storey of a region: the rows of its strips
abbrev pub region_storey : List Cell → Region → Storey
region_storey cells region =
    let first = get_or region.strips 0 no_strip in
    record { area = first.area; z0 = first.z; rows = map (row_of cells) region.strips }

-- the storey of a strip by its cells: one row
abbrev pub strip_storey : List Cell → Storey
strip_storey run = record {
  area = (first_of run).area;
  z0 = (first_of run).at.z;
  rows = record { x0 = (first_of run).at.x; floors = map (λ (cell : Cell). cell.floor) run } ∷ [];
}

-- a row has a cell, lies in the largest field, and its floors are low enough for floors of cells
pub record IsFloorRow (row : FloorRow) : Type 0 where
  pub some : 0 < length row.floors
  pub right : row.x0 + length row.floors ≤ 1024
  pub floors : All (λ floor. floor ≤ 8191) row.floors

-- a storey has a row, lies in the largest field, and has an area of cells
pub record IsStorey (storey : Storey) : Type 0 where
  pub some : 0 < length storey.rows
  pub top : storey.z0 + length storey.rows ≤ 1024
  pub rows : All IsFloorRow storey.rows
  pub area : IsArea storey.area

-- each is a storey
abbrev pub AreStoreys : List Storey → Type 0
AreStoreys list = All IsStorey list

-- a storey has a cell in a column, with this floor
pub record HasFloor (storey : Storey) (x z floor : ℕ) : Type 0 where
  pub row : FloorRow
  pub above : storey.z0 ≤ z
  pub is_row : slice_get storey.rows (z - storey.z0) ≡ Some row
  pub right : row.x0 ≤ x
  pub is_cell : slice_get row.floors (x - row.x0) ≡ Some floor
