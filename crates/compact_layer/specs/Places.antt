-- Cells by place, and their neighbours.
use Rattle.std.specs.Prelude.{◌≡◌, ℕ, ◌<◌, Bool, nat_lt, ◌==◌, ◌&&◌, ◌||◌, List, Any, Option, option_and_then}
use Rattle.std.specs.List.{find}
use Rattle.std.specs.Option.{option_map}
use Rattle.nav_ground.specs.declared.cell.Cell.{Cell}
use Rattle.nav_ground.specs.declared.cell.CellRef.{CellRef}
use Rattle.nav_ground.specs.Cells.{is_naming}

-- some cell of the list has the place
abbrev pub IsPlaceOf : List Cell → CellRef → Type 0
IsPlaceOf cells at = Any (λ (cell : Cell). cell.at ≡ at) cells

-- a cell has a place
abbrev pub is_at : CellRef → Cell → Bool
is_at at cell = cell.at.x == at.x && cell.at.z == at.z && cell.at.level == at.level

-- the place of the first cell of the list that a cell names in a direction
abbrev pub named_place : List Cell → ℕ → Cell → Option CellRef
named_place cells dir cell = option_map (λ (other : Cell). other.at) (find (λ (other : Cell). is_naming dir cell other.at) cells)

-- the place of the neighbour in a direction of the cell at a place
abbrev pub neighbour_of : List Cell → CellRef → ℕ → Option CellRef
neighbour_of cells at dir = option_and_then (named_place cells dir) (find (is_at at) cells)

-- a place comes before another: by z, then x, then level
abbrev pub is_before : CellRef → CellRef → Bool
is_before a b = nat_lt a.z b.z || (a.z == b.z && (nat_lt a.x b.x || (a.x == b.x && nat_lt a.level b.level)))

-- there are a column x - 1 and a column z - 1 where the direction leads there, and numbers for the others
pub record HasColumnToward (dir : ℕ) (at : CellRef) : Type 0 where
  pub left : dir ≡ 0 → 0 < at.x
  pub below : dir ≡ 3 → 0 < at.z
  pub x : at.x < 1024
  pub z : at.z < 1024
