-- Cells written as rows, for tests.
use Rattle.std.specs.Prelude.{ℕ, [], ◌∷◌, Option, Some, None, cond, nat_eq}
use Rattle.nav_ground.specs.declared.cell.Cell.{Cell}

-- a level that is named, or none for the greatest number
abbrev pub named_by : ℕ → Option ℕ
named_by level = cond (nat_eq level 65535) None (Some level)

-- the cell of a row: its x, its z, its level, its area, and the levels that it names
abbrev pub cell_of : ℕ × ℕ × ℕ × ℕ × ℕ × ℕ × ℕ × ℕ → Cell
cell_of row = record {
  at = record { x = row.0; z = row.1; level = row.2 };
  floor = 10;
  ceiling = 65535;
  area = row.3;
  next = named_by row.4 ∷ named_by row.5 ∷ named_by row.6 ∷ named_by row.7 ∷ [];
}
