-- What the codes of edges are read from, and the strips that are looked up.
use Rattle.std.specs.Prelude.{◌≡◌, ℕ, ◌<◌, nat_lt, Bool, cond, ◌==◌, ◌&&◌, ◌||◌, List, map, length, get_or}
use Rattle.std.specs.List.{list_any, position_or_len}
use Rattle.nav_ground.specs.declared.cell.Cell.{Cell}
use Rattle.nav_ground.specs.declared.cell.CellRef.{CellRef}
use Rattle.nav_ground.specs.Cells.{IsCells}
use Rattle.mesh_types.specs.declared.region.Strip.{Strip}
use Rattle.mesh_types.specs.declared.region.Region.{Region}
use Rattle.mesh_types.specs.StripPolygons.{some_cell}
use Rattle.mesh_types.specs.Regions.{is_holding, IsStrip}
use Rattle.mesh_types.specs.Contours.{is_at}
use Rattle.cell_table.specs.Table.{neighbour_table}
use Rattle.contour_walk.specs.declared.codes.RegionTable.{RegionTable}
use Rattle.contour_walk.specs.declared.codes.RegionRim.{RegionRim}

-- the index of the cell at a place, or how many cells there are
abbrev pub index_of : List Cell → CellRef → ℕ
index_of cells at = position_or_len (is_at at) cells

-- two places are the same, and one comes before another: by z, then x, then level
abbrev pub is_same : CellRef → CellRef → Bool
is_same at other = other.x == at.x && other.z == at.z && other.level == at.level

abbrev pub is_before : CellRef → CellRef → Bool
is_before at other =
    nat_lt at.z other.z || (at.z == other.z && (nat_lt at.x other.x || (at.x == other.x && nat_lt at.level other.level)))

-- the number of the first region that holds a place, or how many regions there are
abbrev pub is_in_region : CellRef → Region → Bool
is_in_region at region = list_any (is_holding at) region.strips

abbrev pub owner_of : List Region → Cell → ℕ
owner_of regions cell = position_or_len (is_in_region cell.at) regions

-- a number is written at the cells whose places pass, and elsewhere nothing changes
pub record IsMarked (passes : CellRef → Bool) (cells : List Cell) (number : ℕ) (old new : List ℕ) : Type 0 where
  pub same : length new ≡ length old
  pub each : (i : ℕ) → i < length cells → get_or new i 0 ≡ cond (passes (get_or cells i some_cell).at) number (get_or old i 0)

-- a strip has a level for each of its columns, and lies in the largest field
pub record IsFit (strip : Strip) : Type 0 where
  pub columns : IsStrip strip
  pub x : strip.x1 < 1024
  pub z : strip.z < 1024

-- the tables are those of the cells and regions
pub record IsTableOf (cells : List Cell) (regions : List Region) (table : RegionTable) : Type 0 where
  pub neighbours : table.neighbours ≡ neighbour_table cells
  pub owners : table.owners ≡ map (owner_of regions) cells

-- what edges are read from: the cells keep the rules of cells, and the tables are those of them and the regions
pub record IsRim (rim : RegionRim) : Type 0 where
  pub cells : IsCells rim.cells.now
  pub table : IsTableOf rim.cells.now rim.regions.now.regions rim.table.now
