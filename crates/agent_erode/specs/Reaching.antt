-- What walks reach, cost by cost: cells are taken out of those that are kept, and stand in the order in which they were reached.
use Rattle.std.specs.Prelude.{ℕ, ◌+◌, ◌%◌, Bool, true, false, not, ◌&&◌, nat_lt, if◌then◌else◌, List, [], ◌∷◌, ◌++◌, filter, fold, replicate, slice_index_or, slice_set}
use Rattle.std.specs.List.{flat_map, slice_range, range_with_len}
use Rattle.cell_table.specs.Table.{neighbour}

-- which cells are still kept, and the indices of the others in the order in which they were reached
pub record Progress : Type 0 where
  pub kept : List Bool
  pub order : List ℕ

-- nothing is reached yet of so many cells
abbrev pub nothing_reached : ℕ → Progress
nothing_reached count = record { kept = replicate count true; order = [] }

-- an index is reached: a cell that is still kept is kept no more; any other index changes nothing
abbrev pub reached : Progress → ℕ → Progress
reached progress to =
    if slice_index_or progress.kept to false then record { kept = slice_set progress.kept to false; order = progress.order ++ to ∷ [] } else progress

-- the indices that axis steps from a cell lead to, and those that diagonal steps lead to
abbrev pub axis_ends : List (List ℕ) → ℕ → List ℕ
axis_ends table from = neighbour table from 0 ∷ neighbour table from 1 ∷ neighbour table from 2 ∷ neighbour table from 3 ∷ []

abbrev pub turn_ends : List (List ℕ) → ℕ → ℕ → List ℕ
turn_ends table from dir =
    neighbour table (neighbour table from dir) ((dir + 1) % 4) ∷ neighbour table (neighbour table from dir) ((dir + 3) % 4) ∷ []

abbrev pub diagonal_ends : List (List ℕ) → ℕ → List ℕ
diagonal_ends table from = turn_ends table from 0 ++ turn_ends table from 1 ++ turn_ends table from 2 ++ turn_ends table from 3

-- the same from each cell that was reached from one place in the order to before another
abbrev pub axis_ends_from : List (List ℕ) → List ℕ → ℕ → ℕ → List ℕ
axis_ends_from table order first end = flat_map (axis_ends table) (slice_range order first end)

abbrev pub diagonal_ends_from : List (List ℕ) → List ℕ → ℕ → ℕ → List ℕ
diagonal_ends_from table order first end = flat_map (diagonal_ends table) (slice_range order first end)

-- a cell of so many has fewer than four neighbours among them
abbrev pub has_gap : List (List ℕ) → ℕ → ℕ → Bool
has_gap table count from =
    not (nat_lt (neighbour table from 0) count && nat_lt (neighbour table from 1) count && nat_lt (neighbour table from 2) count && nat_lt (neighbour table from 3) count)

-- the indices of the boundary cells
abbrev pub boundary : List (List ℕ) → ℕ → List ℕ
boundary table count = filter (has_gap table count) (range_with_len 0 count)

-- what is reached once the axis steps are taken from each cell in a part of the order, and once the diagonal steps are
abbrev pub after_axis_steps : List (List ℕ) → Progress → ℕ → ℕ → Progress
after_axis_steps table progress first end = fold reached progress (axis_ends_from table progress.order first end)

abbrev pub after_diagonal_steps : List (List ℕ) → Progress → ℕ → ℕ → Progress
after_diagonal_steps table progress first end = fold reached progress (diagonal_ends_from table progress.order first end)

-- a round: axis steps from the cells of two costs before, and diagonal steps from those of three costs before
abbrev pub after_round : List (List ℕ) → Progress → ℕ → ℕ → ℕ → Progress
after_round table progress third second first = after_diagonal_steps table (after_axis_steps table progress second first) third second
