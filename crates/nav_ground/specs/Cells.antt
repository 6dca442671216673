-- Cells: where an agent can stand, how cells name their neighbours, and the rules that every list of cells keeps.
use Rattle.std.specs.Prelude.{◌≡◌, ℕ, ◌+◌, ◌%◌, ◌<◌, ◌≤◌, ◌⊎◌, Bool, false, IsTrue, ◌&&◌, ◌==◌, if◌then◌else◌, List, length, All, AllPairs, Contains, Option, Some, slice_get, option_and_then}
use Rattle.std.specs.Option.{option_map_or}
use Rattle.nav_ground.specs.declared.setting.Setting.{Setting}
use Rattle.nav_ground.specs.declared.cell.CellRef.{CellRef}
use Rattle.nav_ground.specs.declared.cell.Cell.{Cell}
use Rattle.nav_ground.specs.declared.cell.Layer.{Layer}
use Rattle.nav_ground.specs.Limits.{IsArea}
use Rattle.nav_ground.specs.Tiling.{tile_count, tile_window, IsInWindow}

-- cells stand by z, then x, then level
abbrev pub IsCellBefore : CellRef → CellRef → Type 0
IsCellBefore a b = (a.z < b.z) ⊎ ((a.z ≡ b.z) × ((a.x < b.x) ⊎ ((a.x ≡ b.x) × (a.level < b.level))))

-- a cell lies in the largest field, can be walked on, and has one place for a neighbour in each of four directions
pub record IsCell (cell : Cell) : Type 0 where
  pub x : cell.at.x < 1024
  pub z : cell.at.z < 1024
  pub area : IsArea cell.area
  pub floor : cell.floor ≤ 8191
  pub ceiling : cell.ceiling ≤ 65535
  pub sides : length cell.next ≡ 4

-- at most 2000000 cells, in order, none twice
pub record IsCells (cells : List Cell) : Type 0 where
  pub few : length cells ≤ 2000000
  pub order : AllPairs (λ (a b : Cell). IsCellBefore a.at b.at) cells
  pub each : All IsCell cells

-- the column of `to` is the neighbouring column of that of `from` in a direction: 0 is x - 1, 1 is z + 1, 2 is x + 1, 3 is z - 1
abbrev pub is_toward : ℕ → CellRef → CellRef → Bool
is_toward dir from to =
    if dir == 0 then to.x + 1 == from.x && to.z == from.z
    else (if dir == 1 then to.x == from.x && to.z == from.z + 1
    else (if dir == 2 then to.x == from.x + 1 && to.z == from.z
    else to.x == from.x && to.z + 1 == from.z))

-- the level that a cell names in a direction, if it is connected there
abbrev pub next_level : Cell → ℕ → Option ℕ
next_level cell dir = option_and_then (λ (next : Option ℕ). next) (slice_get cell.next dir)

-- a cell names another as its neighbour in a direction
abbrev pub is_naming : ℕ → Cell → CellRef → Bool
is_naming dir from to = is_toward dir from.at to && option_map_or (λ level. level == to.level) (next_level from dir) false

-- the opposite direction
abbrev pub opposite : ℕ → ℕ
opposite dir = (dir + 2) % 4

-- a connection that names a cell of the list is named back by that cell
abbrev pub AreMutual : List Cell → Type 0
AreMutual cells = (dir : ℕ) (a b : Cell) → dir < 4 → Contains cells a → Contains cells b
    → IsTrue (is_naming dir a b.at) → IsTrue (is_naming (opposite dir) b a.at)

-- every connection names a cell of the list
abbrev pub AreComplete : List Cell → Type 0
AreComplete cells = (dir level : ℕ) (a : Cell) → dir < 4 → Contains cells a → next_level a dir ≡ Some level
    → (b : Cell) × Contains cells b × IsTrue (is_naming dir a b.at)

-- the cells of a whole field: each connection leads to a cell, which leads back
pub record IsCompact (cells : List Cell) : Type 0 where
  pub rules : IsCells cells
  pub complete : AreComplete cells
  pub named_back : AreMutual cells

-- the cells of a layer or free layer, which may be connected to cells of other tiles too
pub record IsCut (cells : List Cell) : Type 0 where
  pub rules : IsCells cells
  pub named_back : AreMutual cells

-- a layer: its cells are a cut, and its wide cells are in order and within the limits
pub record IsLayer (layer : Layer) : Type 0 where
  pub cells : IsCut layer.cells
  pub wide : IsCells layer.wide

-- the tile is a tile of the ground, and the cells lie in it
pub record IsInTile (setting : Setting) (tile : ℕ) (cells : List Cell) : Type 0 where
  pub there : tile < tile_count setting
  pub inside : All (λ (cell : Cell). IsInWindow (tile_window setting tile) cell.at.x cell.at.z) cells
