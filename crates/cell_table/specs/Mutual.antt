-- The neighbour table of cells that name each other, row after row.
use Rattle.std.specs.Prelude.{ℕ, nat_lt, List, [], ◌∷◌, length, if◌then◌else◌, slice_set, slice_index_or}
use Rattle.nav_ground.specs.declared.cell.Cell.{Cell}
use Rattle.cell_table.specs.Table.{index_named}

-- the row of a cell as far as it names cells before it
abbrev pub row_back : List Cell → Cell → List ℕ
row_back cells cell = index_named cells cell 0 ∷ length cells ∷ length cells ∷ index_named cells cell 3 ∷ []

-- a table in which the row of a cell, if there is one, names another in a direction
abbrev pub named_back : List (List ℕ) → ℕ → ℕ → ℕ → List (List ℕ)
named_back table from dir to = if nat_lt from (length table) then slice_set table from (slice_set (slice_index_or table from []) dir to) else table
