-- Cells in order, those of one column one above the other, and which of them a sweep has passed.
use Rattle.std.specs.Prelude.{◌≡◌, ℕ, ◌+◌, ◌<◌, ◌≤◌, Bool, true, nat_lt, ◌==◌, ◌&&◌, ◌||◌, List, [], ◌∷◌, length, All, AllPairs, Option, slice_index_or}
use Rattle.nav_ground.specs.declared.setting.Agent.{Agent}
use Rattle.nav_ground.specs.declared.cell.Cell.{Cell}
use Rattle.nav_ground.specs.Connection.{level_toward}
use Rattle.compact_layer.specs.declared.sweep.PassedColumns.{PassedColumns}
use Rattle.compact_layer.specs.Columns.{IsPlace, column_of, column_toward}

-- a cell lies in the largest field, its floor is the top of a span, and no more cells lie below it than spans of some height can
pub record IsStanding (cell : Cell) : Type 0 where
  pub at : IsPlace cell.at
  pub floor : cell.floor ≤ 8191
  pub level : cell.at.level ≤ 8191

-- a cell and a later one: the later one is not in an earlier column, and in the same column its floor lies above the first one's floor and ceiling
pub record IsUnder (a b : Cell) : Type 0 where
  pub column : column_of a.at ≤ column_of b.at
  pub floor : column_of a.at ≡ column_of b.at → a.floor < b.floor
  pub ceiling : column_of a.at ≡ column_of b.at → a.ceiling < b.floor

-- cells column by column, from the bottom up
pub record AreStacked (cells : List Cell) : Type 0 where
  pub each : All IsStanding cells
  pub order : AllPairs IsUnder cells

-- a cell lies in a column before one, or in that column with its ceiling below a height
abbrev pub is_passed : ℕ → ℕ → Cell → Bool
is_passed column height cell = nat_lt (column_of cell.at) column || (column_of cell.at == column && nat_lt cell.ceiling height)

-- the first n cells do
pub record IsPassed (cells : List Cell) (n column height : ℕ) : Type 0 where
  pub most : n ≤ length cells
  pub each : (k : ℕ) (d : Cell) → k < n → is_passed column height (slice_index_or cells k d) ≡ true

-- in each direction, as many cells as said are passed for a cell: by the neighbouring column and by the height that an agent needs over the cell's floor
pub record ArePassed (cells : List Cell) (height : ℕ) (passed : PassedColumns) (cell : Cell) : Type 0 where
  pub left : IsPassed cells passed.left (column_toward 0 cell.at) (cell.floor + height)
  pub above : IsPassed cells passed.above (column_toward 1 cell.at) (cell.floor + height)
  pub right : IsPassed cells passed.right (column_toward 2 cell.at) (cell.floor + height)
  pub below : IsPassed cells passed.below (column_toward 3 cell.at) (cell.floor + height)

-- the levels of the cells that a cell is connected to in the four directions
abbrev pub next_levels : Agent → List Cell → Cell → List (Option ℕ)
next_levels agent cells cell =
    level_toward agent cells cell 0 ∷ level_toward agent cells cell 1 ∷ level_toward agent cells cell 2 ∷ level_toward agent cells cell 3 ∷ []
