-- Flags, one a tile, and the least number that passes a test.
use Rattle.std.specs.Prelude.{ℕ, Bool, false, List, find, Option, slice_index_or}
use Rattle.std.specs.List.{count_by, range_with_len}

-- the flag of a tile; false where there is none
abbrev pub flag_of : List Bool → ℕ → Bool
flag_of flags tile = slice_index_or flags tile false

-- how many flags are set
abbrev pub set_count : List Bool → ℕ
set_count flags = count_by (λ (flag : Bool). flag) flags

-- the least number below a count that passes a test
abbrev pub least_below : ℕ → (ℕ → Bool) → Option ℕ
least_below count test = find test (range_with_len 0 count)
