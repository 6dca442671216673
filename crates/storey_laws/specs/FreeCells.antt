-- FreeCells: how the storeys of a tile are made of its free cells, and which floors a storey has.
use Rattle.std.specs.Prelude.{◌≡◌, ℕ, ◌+◌, ◌≤◌, ◌⊎◌, IsTrue, List, All, Any, Some, slice_get}
use Rattle.nav_ground.specs.declared.cell.Cell.{Cell}
use Rattle.nav_ground.specs.Filters.{is_near}
use Rattle.mesh_types.specs.declared.mesh.TileMesh.{TileMesh}
use Rattle.mesh_types.specs.declared.polygon.Polygon.{Polygon}
use Rattle.mesh_types.specs.declared.storeys.Storey.{Storey}
use Rattle.mesh_types.specs.Places.{storey_in}
use Rattle.mesh_types.specs.Storeys.{HasFloor}

-- a storey has a cell: the floor of the cell in its column, and its area
pub record HasFreeCell (storey : Storey) (cell : Cell) : Type 0 where
  pub floor : HasFloor storey cell.at.x cell.at.z cell.floor
  pub area : storey.area ≡ cell.area

-- one storey of a list has a cell, and no other has a floor there
pub record IsInOneStorey (list : List Storey) (cell : Cell) : Type 0 where
  pub place : ℕ
  pub storey : Storey
  pub there : slice_get list place ≡ Some storey
  pub has : HasFreeCell storey cell
  pub only : (other : ℕ) (storey' : Storey) → slice_get list other ≡ Some storey'
      → HasFloor storey' cell.at.x cell.at.z cell.floor → other ≡ place

-- each floor of a storey is that of a cell of a list, which the storey has
abbrev pub HasNoOtherCell : List Cell → Storey → Type 0
HasNoOtherCell cells storey = (x z y : ℕ) → HasFloor storey x z y
    → Any (λ (cell : Cell). HasFreeCell storey cell × (cell.at.x ≡ x) × (cell.at.z ≡ z) × (cell.floor ≡ y)) cells

-- the free cells of a tile are those of its storeys: each is a cell of exactly one storey, and the storeys have no others
pub record SharesFreeCells (tile : TileMesh) : Type 0 where
  pub once : All (IsInOneStorey tile.storeys.list) tile.free.cells
  pub only : All (HasNoOtherCell tile.free.cells) tile.storeys.list

-- one column is the next of another, along x or along z
abbrev pub IsNextColumn : ℕ → ℕ → ℕ → ℕ → Type 0
IsNextColumn x z x' z' = ((x' ≡ x + 1) × (z' ≡ z)) ⊎ ((x' ≡ x) × (z' ≡ z + 1))

-- the floors of a storey in neighbouring columns differ by at most a climb
abbrev pub KeepsClimb : ℕ → Storey → Type 0
KeepsClimb climb storey = (x z y x' z' y' : ℕ) → IsNextColumn x z x' z' → HasFloor storey x z y → HasFloor storey x' z' y'
    → IsTrue (is_near climb y y')

-- a number is the floor of a storey in some column
abbrev pub IsSomeFloor : Storey → ℕ → Type 0
IsSomeFloor storey y = (x : ℕ) × (z : ℕ) × HasFloor storey x z y

-- a polygon of a tile has the area of its storey, and the least and the greatest of its floors
pub record IsOverStorey (tile : TileMesh) (index : ℕ) (polygon : Polygon) : Type 0 where
  pub storey : Storey
  pub home : storey_in tile.storeys index ≡ Some storey
  pub area : polygon.area ≡ storey.area
  pub low : IsSomeFloor storey polygon.low
  pub high : IsSomeFloor storey polygon.high
  pub between : (y : ℕ) → IsSomeFloor storey y → (polygon.low ≤ y) × (y ≤ polygon.high)

-- each polygon of a tile has
abbrev pub AreOverStoreys : TileMesh → Type 0
AreOverStoreys tile = (index : ℕ) (polygon : Polygon) → slice_get tile.polys index ≡ Some polygon → IsOverStorey tile index polygon
