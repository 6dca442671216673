-- Cells written as rows, for tests.
use Rattle.std.specs.Prelude.{ℕ, [], ◌∷◌, Option, Some, None, cond, nat_eq}
use Rattle.nav_ground.specs.declared.cell.Cell.{Cell}

-- a level that is named, or none for the greatest number
abbrev pub named_by : ℕ → Option ℕ
named_by level = cond (nat_eq level 255) None (Some level)

-- the cell of a row: its place, its heights and area, and the levels that it names
abbrev pub whole_cell_of : (ℕ × ℕ × ℕ) × (ℕ × ℕ × ℕ) × (ℕ × ℕ × ℕ × ℕ) → Cell
whole_cell_of row = record {
  at = record { x = row.0.0; z = row.0.1; level = row.0.2 };
  floor = row.1.0;
  ceiling = row.1.1;
  area = row.1.2;
  next = named_by row.2.0 ∷ named_by row.2.1 ∷ named_by row.2.2 ∷ named_by row.2.3 ∷ [];
}

-- the cell of a short row: its x, its z, its level, and the levels that it names
abbrev pub cell_of : ℕ × ℕ × ℕ × ℕ × ℕ × ℕ × ℕ → Cell
cell_of row = whole_cell_of ((row.0, row.1, row.2), (7, 65535, 63), (row.3, row.4, row.5, row.6))
