-- Columns: how far a coordinate lies outside a column, and the columns under it.
use Rattle.std.specs.Prelude.{◌≤◌, ℕ, ◌+◌, ◌*◌, ◌-◌, ◌/◌, ℤ, pos, ◌+ℤ◌, ◌-ℤ◌, unsigned_abs}
use Rattle.std.specs.Int.{int_max}
use Rattle.mesh_types.specs.Places.{outside}
use Rattle.mesh_place.specs.declared.columns.ColumnRange.{ColumnRange}
use Rattle.mesh_place.specs.declared.columns.ReachEnds.{ReachEnds}

-- how far a number lies above another; 0 where it does not
abbrev pub over_by : ℤ → ℤ → ℕ
over_by a b = unsigned_abs (int_max (pos 0) (b -ℤ a))

-- how far a coordinate, in sixteenths, lies outside a column
abbrev pub column_out : ℕ → ℤ → ℕ
column_out place n = outside (pos (16 * place)) (pos (16 * (place + 1))) n

-- the columns whose closed squares reach a coordinate
abbrev pub span_under : ℤ → ColumnRange
span_under n = let m = unsigned_abs (int_max n (pos 0)) in record { first = (m - 1) / 16; last = m / 16 }

-- the columns within a reach of a coordinate
abbrev pub columns_around : ℤ → ℕ → ColumnRange
columns_around n reach = record { first = (span_under (n -ℤ pos reach)).first; last = (span_under (n +ℤ pos reach)).last }

-- the columns whose closed squares reach from a line between columns, none of them before the field, to another one
abbrev pub columns_touched : ℤ → ℤ → ColumnRange
columns_touched low high = record { first = unsigned_abs low - 1; last = unsigned_abs high }

-- the ends of what is within a reach of a coordinate; 0 for those before the field
abbrev pub reach_ends : ℤ → ℕ → ReachEnds
reach_ends n reach = record { low = unsigned_abs (int_max (n -ℤ pos reach) (pos 0)); high = unsigned_abs (int_max (n +ℤ pos reach) (pos 0)) }

-- a column is one of some
pub record IsAmong (range : ColumnRange) (x : ℕ) : Type 0 where
  pub first : range.first ≤ x
  pub last : x ≤ range.last
