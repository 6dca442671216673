-- StripCover: where the free cells of a tile of strips lie: each in one strip, and its column in that strip's polygon.
use Rattle.std.specs.Prelude.{◌≡◌, ℕ, ◌+◌, ◌*◌, ◌<◌, pos, ◌≤ℤ◌, List, [], length, get_or, All, Any, Contains}
use Rattle.nav_base.specs.declared.point.Point.{Point}
use Rattle.nav_ground.specs.declared.setting.Setting.{Setting}
use Rattle.nav_ground.specs.declared.cell.Cell.{Cell}
use Rattle.mesh_types.specs.declared.polygon.Polygon.{Polygon}
use Rattle.mesh_types.specs.declared.mesh.TileMesh.{TileMesh}
use Rattle.mesh_types.specs.Located.{Holds}
use Rattle.mesh_types.specs.StripPolygons.{strip_runs}
use Rattle.mesh_types.specs.StripMeshes.{strip_mesh_of}

-- a tile is built as strips
abbrev pub IsOfStrips : Setting → TileMesh → Type 0
IsOfStrips setting tile = tile ≡ strip_mesh_of setting tile.free

-- a cell is a cell of exactly one strip
pub record IsInOne (runs : List (List Cell)) (cell : Cell) : Type 0 where
  pub strip : ℕ
  pub there : strip < length runs
  pub has : Contains (get_or runs strip []) cell
  pub only : (s : ℕ) → s < length runs → Contains (get_or runs s []) cell → s ≡ strip

-- a point in sixteenths lies in the square of a column
pub record IsInColumn (x z : ℕ) (p : Point) : Type 0 where
  pub left : pos (16 * x) ≤ℤ p.x
  pub right : p.x ≤ℤ pos (16 * (x + 1))
  pub bottom : pos (16 * z) ≤ℤ p.z
  pub top : p.z ≤ℤ pos (16 * (z + 1))

-- a polygon holds a column: each point of its square
abbrev pub HoldsColumn : Polygon → ℕ → ℕ → Type 0
HoldsColumn polygon x z = (p : Point) → IsInColumn x z p → Holds polygon p

-- a polygon holds the columns of the cells of a strip, and no others
pub record HoldsColumnsOf (run : List Cell) (polygon : Polygon) : Type 0 where
  pub held : All (λ (cell : Cell). HoldsColumn polygon cell.at.x cell.at.z) run
  pub only : (x z : ℕ) → HoldsColumn polygon x z → Any (λ (cell : Cell). (cell.at.x ≡ x) × (cell.at.z ≡ z)) run

-- the polygons of a tile cover its free cells: each cell is a cell of exactly one strip, and for each strip there is one polygon, which holds
-- the columns of its cells and no others
pub record CoversCells (tile : TileMesh) : Type 0 where
  pub once : All (IsInOne (strip_runs tile.free.cells)) tile.free.cells
  pub one_each : length tile.polys ≡ length (strip_runs tile.free.cells)
  pub columns : (s : ℕ) (d : Polygon) → s < length tile.polys
      → HoldsColumnsOf (get_or (strip_runs tile.free.cells) s []) (get_or tile.polys s d)
