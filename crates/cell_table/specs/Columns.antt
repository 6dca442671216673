-- Columns by number, so that cells in order have columns in order.
use Rattle.std.specs.Prelude.{ℕ, ◌+◌, ◌-◌, ◌*◌, ◌<◌, ◌==◌, ◌&&◌, ◌||◌, Bool, nat_lt, if◌then◌else◌}
use Rattle.nav_ground.specs.declared.cell.CellRef.{CellRef}

-- a place lies in the largest field
pub record IsPlace (at : CellRef) : Type 0 where
  pub x : at.x < 1024
  pub z : at.z < 1024

-- columns are numbered row by row; a row has 2048 numbers and the first begins at 2048, so that the columns beside the field have numbers of their own
abbrev pub column_of : CellRef → ℕ
column_of at = (at.z + 1) * 2048 + at.x

-- the number of the neighbouring column in a direction
abbrev pub column_toward : ℕ → CellRef → ℕ
column_toward dir at =
    if dir == 0 then column_of at - 1
    else (if dir == 1 then column_of at + 2048
    else (if dir == 2 then column_of at + 1
    else column_of at - 2048))

-- a place has a column and a level
abbrev pub is_at : ℕ → ℕ → CellRef → Bool
is_at column level at = column_of at == column && level == at.level

-- a place comes before that of a column and a level
abbrev pub is_before : ℕ → ℕ → CellRef → Bool
is_before column level at = nat_lt (column_of at) column || (column_of at == column && nat_lt at.level level)
