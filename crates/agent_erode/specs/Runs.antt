-- Runs: the cells of a row of columns, from one column to another.
use Rattle.std.specs.Prelude.{ℕ, ℤ, pos, ◌≤ℤ◌, Bool, not, ◌&&◌, ◌||◌, ◌==◌, nat_lt}
use Rattle.nav_ground.specs.declared.cell.Cell.{Cell}
use Rattle.nav_ground.specs.declared.cell.CellRef.{CellRef}

-- a place lies in a row before a row, or in it and before a column
abbrev pub is_before_column : ℕ → ℕ → CellRef → Bool
is_before_column row x at = nat_lt at.z row || (at.z == row && nat_lt at.x x)

-- a cell lies in a row, from a first column on and before an end
abbrev pub is_in_run : ℕ → ℕ → ℕ → Cell → Bool
is_in_run row first end cell = not (is_before_column row first cell.at) && is_before_column row end cell.at

-- a number lies from a least one to a greatest one
abbrev pub IsBetween : ℤ → ℕ → ℤ → Type 0
IsBetween least number most = (least ≤ℤ pos number) × (pos number ≤ℤ most)
