-- Searches: what a search for the nearest place has found.
use Rattle.std.specs.Prelude.{◌≡◌, ◌≢◌, ℕ, ◌+◌, ◌-◌, ◌*◌, ◌<◌, ◌≤◌, ℤ, pos, ◌*ℤ◌, ◌<ℤ◌, Bool, true, IsTrue, Option, Some, None, slice_get}
use Rattle.std.specs.Ordering.{is_lt}
use Rattle.std.specs.declared.cmp.Ordering.TheVariants.{Less}
use Rattle.nav_base.specs.declared.point.Point.{Point}
use Rattle.nav_base.specs.Deviation.{square_of}
use Rattle.nav_base.specs.Point.{HasCoordinates, from_to}
use Rattle.mesh_types.specs.declared.extent.Extent.{Extent}
use Rattle.mesh_types.specs.declared.links.PolyRef.{PolyRef}
use Rattle.mesh_types.specs.declared.mesh.Mesh.{Mesh}
use Rattle.mesh_types.specs.declared.storeys.FloorRow.{FloorRow}
use Rattle.mesh_types.specs.declared.storeys.Storey.{Storey}
use Rattle.mesh_types.specs.declared.storeys.MeshPlace.{MeshPlace}
use Rattle.mesh_types.specs.FitTiles.{IsPolygon}
use Rattle.mesh_types.specs.Located.{Holds}
use Rattle.mesh_types.specs.Places.{Stands, column_gap, outside, storey_at}
use Rattle.mesh_types.specs.Storeys.{HasFloor, IsStorey}
use Rattle.mesh_types.specs.WholeMesh.{poly_at}
use Rattle.mesh_place.specs.declared.cells.NearCell.{NearCell}
use Rattle.mesh_place.specs.declared.cells.RowLimit.{RowLimit}
use Rattle.mesh_place.specs.declared.lines.LineSpan.{LineSpan}
use Rattle.mesh_place.specs.declared.near.Near.{Near}
use Rattle.mesh_place.specs.declared.storey_scan.Around.{Around}
use Rattle.mesh_place.specs.declared.storey_scan.NearSearch.{NearSearch}
use Rattle.mesh_place.specs.declared.storey_scan.PolygonPart.{PolygonPart}
use Rattle.mesh_place.specs.Columns.{IsAmong, column_out, columns_around, columns_touched}
use Rattle.mesh_place.specs.Nearest.{CanAskNear, IsInReach, is_open, measure, place_cmp}

-- what was found stands and is in reach
abbrev pub IsFound : Mesh → Near → Option MeshPlace → Type 0
IsFound mesh asked None = Unit {0}
IsFound mesh asked (Some place) = Stands mesh place × IsInReach mesh asked place

-- a place does not come before what was found; every place comes before nothing
abbrev pub IsNotBefore : ℕ → Near → MeshPlace → Option MeshPlace → Type 0
IsNotBefore climb asked other None = ⊥
IsNotBefore climb asked other (Some place) = place_cmp climb asked other place ≢ Less

-- a place comes before what was found
abbrev pub comes_before : ℕ → Near → MeshPlace → Option MeshPlace → Bool
comes_before climb asked other None = true
comes_before climb asked other (Some place) = is_lt (place_cmp climb asked other place)

-- the measure of what was found; a number that no measure reaches where nothing was
abbrev pub measure_or_most : ℕ → Near → Option MeshPlace → ℕ
measure_or_most climb asked None = 18446744073709551615
measure_or_most climb asked (Some place) = measure climb asked place

-- what the cells of a row, given by its z, are measured against: the measure of what was found before, and the square of how far the row is
pub record IsRowLimit (climb : ℕ) (asked : Near) (z : ℕ) (limit : RowLimit) : Type 0 where
  pub most : limit.most ≡ measure_or_most climb asked limit.earlier
  pub aside : limit.aside ≡ column_out z asked.point.z * column_out z asked.point.z
  pub bound : limit.aside ≤ 10000000000

-- what is found after some places were looked at: it stands and is in reach, what came before none comes before this one, and none of those
-- places does that stand and are in reach
pub record IsFoundAmong (mesh : Mesh) (asked : Near) (old new : Option MeshPlace) (among : MeshPlace → Type 0) : Type 0 where
  pub found : IsFound mesh asked new
  pub kept : (other : MeshPlace) → IsNotBefore mesh.setting.agent.climb asked other old
      → IsNotBefore mesh.setting.agent.climb asked other new
  pub all : (other : MeshPlace) → Stands mesh other → IsInReach mesh asked other → among other
      → IsNotBefore mesh.setting.agent.climb asked other new

-- a place of a polygon, if there is one
abbrev pub IsOf : Option PolyRef → MeshPlace → Type 0
IsOf None place = ⊥
IsOf (Some at) place = place.polygon ≡ at

-- all places of a polygon were looked at, if there is one: none of them that stands and is in reach comes before what was found
abbrev pub IsDone : Mesh → Near → Option PolyRef → Option MeshPlace → Type 0
IsDone mesh asked done best =
    (other : MeshPlace) → Stands mesh other → IsInReach mesh asked other → IsOf done other → IsNotBefore mesh.setting.agent.climb asked other best

-- a height can be measured against what is asked
pub record IsHeightNear (asked : Near) (y : ℕ) : Type 0 where
  pub low : asked.y ≤ y + asked.down
  pub high : y ≤ asked.y + asked.up

-- a place can be measured against what is asked
pub record IsMeasurable (asked : Near) (place : MeshPlace) : Type 0 where
  pub point : HasCoordinates place.point
  pub near : IsHeightNear asked place.y

-- the square of how far a point, in sixteenths, lies outside a box of whole cells
abbrev pub box_gap : Extent → Point → ℕ
box_gap box p =
    let dx = outside (pos 16 *ℤ box.low.x) (pos 16 *ℤ box.high.x) p.x in
    let dz = outside (pos 16 *ℤ box.low.z) (pos 16 *ℤ box.high.z) p.z in
    dx * dx + dz * dz

-- the columns and rows within a reach of a point
abbrev pub around_of : Point → ℕ → Around
around_of p reach = record { columns = columns_around p.x reach; rows = columns_around p.z reach }

-- a search within a reach that is no greater than what is asked, with the columns and rows within it
pub record IsSearch (search : NearSearch) : Type 0 where
  pub asked : CanAskNear search.asked
  pub reach : search.reach ≤ search.asked.reach
  pub around : search.around ≡ around_of search.asked.point search.reach

-- a point within the reach of a search
abbrev pub IsWithin : NearSearch → Point → Type 0
IsWithin search point = square_of (from_to search.asked.point point) ≤ search.reach * search.reach

-- what is found after those of some places were looked at that are within the reach of a search
abbrev pub IsFoundNear : Mesh → NearSearch → Option MeshPlace → Option MeshPlace → (MeshPlace → Type 0) → Type 0
IsFoundNear mesh search old new among = IsFoundAmong mesh search.asked old new (λ place. among place × IsWithin search place.point)

-- the columns and rows that a box of whole cells touches
abbrev pub cells_touched : Extent → Around
cells_touched box = record { columns = columns_touched box.low.x box.high.x; rows = columns_touched box.low.z box.high.z }

-- a polygon of an open area, with columns and rows over which all points lie that it holds
pub record IsPart (mesh : Mesh) (asked : Near) (part : PolygonPart) : Type 0 where
  pub there : poly_at mesh part.at ≡ Some part.polygon
  pub rules : IsPolygon part.polygon
  pub area : IsTrue (is_open asked.areas part.polygon.area)
  pub touched : (x z : ℕ) (q : Point) → 0 ≡ column_gap x z q → Holds part.polygon q
      → IsAmong part.touched.columns x × IsAmong part.touched.rows z

-- a row of the storey of a polygon
pub record IsRowOf (mesh : Mesh) (at : PolyRef) (row : FloorRow) (z : ℕ) : Type 0 where
  pub storey : Storey
  pub home : storey_at mesh at ≡ Some storey
  pub rules : IsStorey storey
  pub above : storey.z0 ≤ z
  pub is_row : slice_get storey.rows (z - storey.z0) ≡ Some row

-- a cell of the storey of a polygon
pub record IsCellOf (mesh : Mesh) (part : PolygonPart) (cell : NearCell) : Type 0 where
  pub storey : Storey
  pub home : storey_at mesh part.at ≡ Some storey
  pub has : HasFloor storey cell.x cell.z cell.y
  pub low : cell.y ≤ 8191
  pub across : cell.x < 1024
  pub along : cell.z < 1024

-- the whole points over a cell, along each axis
abbrev pub columns_of : NearCell → LineSpan
columns_of cell = record { first = 16 * cell.x; last = 16 * cell.x + 16 }

abbrev pub rows_of : NearCell → LineSpan
rows_of cell = record { first = 16 * cell.z; last = 16 * cell.z + 16 }

-- the place over a cell at a point
abbrev pub place_over : PolygonPart → NearCell → Point → MeshPlace
place_over part cell point = record { polygon = part.at; point = point; y = cell.y }

-- the places over a cell, those of them on a line, and those on the lines before one
pub record IsOverCell (part : PolygonPart) (cell : NearCell) (place : MeshPlace) : Type 0 where
  pub polygon : place.polygon ≡ part.at
  pub y : place.y ≡ cell.y
  pub over : 0 ≡ column_gap cell.x cell.z place.point

pub record IsOnLine (part : PolygonPart) (cell : NearCell) (z : ℤ) (place : MeshPlace) : Type 0 where
  pub over : IsOverCell part cell place
  pub on : place.point.z ≡ z

pub record IsInLines (part : PolygonPart) (cell : NearCell) (end : ℕ) (place : MeshPlace) : Type 0 where
  pub over : IsOverCell part cell place
  pub before : place.point.z <ℤ pos end

-- a point of a line over a cell, and one that the polygon holds
pub record IsLinePoint (cell : NearCell) (z : ℤ) (q : Point) : Type 0 where
  pub over : 0 ≡ column_gap cell.x cell.z q
  pub on : q.z ≡ z

pub record IsHeldOnLine (part : PolygonPart) (cell : NearCell) (z : ℤ) (q : Point) : Type 0 where
  pub point : IsLinePoint cell z q
  pub holds : Holds part.polygon q

-- the places of a polygon over the cells of a row before a column
pub record IsInRow (row : FloorRow) (at : PolyRef) (z end : ℕ) (place : MeshPlace) : Type 0 where
  pub polygon : place.polygon ≡ at
  pub x : ℕ
  pub right : row.x0 ≤ x
  pub is_cell : slice_get row.floors (x - row.x0) ≡ Some place.y
  pub over : 0 ≡ column_gap x z place.point
  pub before : x < end

-- and over those of the rows of a storey before one
pub record IsInRows (storey : Storey) (at : PolyRef) (end : ℕ) (place : MeshPlace) : Type 0 where
  pub polygon : place.polygon ≡ at
  pub x : ℕ
  pub z : ℕ
  pub has : HasFloor storey x z place.y
  pub over : 0 ≡ column_gap x z place.point
  pub before : z < end
