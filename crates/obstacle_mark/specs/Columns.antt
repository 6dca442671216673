-- Places by the numbers of their columns, and rows of columns.
use Rattle.std.specs.Prelude.{◌≡◌, ℕ, ◌+◌, ◌-◌, ◌<◌, ◌≤◌, ◌==◌, nat_lt, Bool, ◌&&◌, ◌||◌, List, length, All, slice_index_or}
use Rattle.std.specs.List.Sorted.{IsNonDecreasingBy}
use Rattle.nav_ground.specs.declared.cell.CellRef.{CellRef}
use Rattle.cell_table.specs.Columns.{IsPlace, column_of}

-- places of the largest field, column by column
pub record ArePlaces (places : List CellRef) : Type 0 where
  pub each : All IsPlace places
  pub order : IsNonDecreasingBy column_of places

-- the first n places lie in columns before a column
pub record IsPassed (places : List CellRef) (n column : ℕ) : Type 0 where
  pub most : n ≤ length places
  pub before : (k : ℕ) (d : CellRef) → k < n → column_of (slice_index_or places k d) < column

-- a place lies in none of the four columns beside a column
pub record LiesApart (column : ℕ) (at : CellRef) : Type 0 where
  pub left : column_of at ≡ column - 1 → ⊥
  pub above : column_of at ≡ column + 2048 → ⊥
  pub right : column_of at ≡ column + 1 → ⊥
  pub below : column_of at ≡ column - 2048 → ⊥

-- a place comes before a column, in the order of cells: by z, then by x
abbrev pub is_before : ℕ → ℕ → CellRef → Bool
is_before x z at = nat_lt at.z z || (at.z == z && nat_lt at.x x)

-- a place lies in a row of columns, given by its z, from one x on and before another
abbrev pub IsInRow : ℕ → ℕ → ℕ → CellRef → Type 0
IsInRow first end z at = (at.z ≡ z) × (first ≤ at.x) × (at.x < end)
