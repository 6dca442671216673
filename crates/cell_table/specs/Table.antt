-- The neighbour table of a list of cells: by the index of a cell and a direction, the index of the cell that it names.
use Rattle.std.specs.Prelude.{ℕ, List, [], ◌∷◌, map, slice_index_or}
use Rattle.std.specs.List.{position_or_len}
use Rattle.nav_ground.specs.declared.cell.Cell.{Cell}
use Rattle.nav_ground.specs.Cells.{is_naming}
use Rattle.cell_table.specs.Columns.{is_at}

-- the index of the cell with a column and a level, or how many cells there are where none has them
abbrev pub index_of : List Cell → ℕ → ℕ → ℕ
index_of cells column level = position_or_len (λ (cell : Cell). is_at column level cell.at) cells

-- the index of the cell that a cell names in a direction, or how many cells there are where it names none of the list
abbrev pub index_named : List Cell → Cell → ℕ → ℕ
index_named cells cell dir = position_or_len (λ (other : Cell). is_naming dir cell other.at) cells

-- the same for each direction
abbrev pub indices_named : List Cell → Cell → List ℕ
indices_named cells cell = index_named cells cell 0 ∷ index_named cells cell 1 ∷ index_named cells cell 2 ∷ index_named cells cell 3 ∷ []

-- the same for each cell
unfoldable pub neighbour_table : List Cell → List (List ℕ)
neighbour_table cells = map (indices_named cells) cells

-- the index in a table at a cell and a direction; past the table none that a cell has
abbrev pub neighbour : List (List ℕ) → ℕ → ℕ → ℕ
neighbour table from dir = slice_index_or (slice_index_or table from []) dir 4294967295
