-- Sets of numbers as words of 64 bits, a bit a number.
use Rattle.std.specs.Prelude.{◌≡◌, ◌≢◌, ℕ, ◌/◌, ◌%◌, ◌<◌, ◌≤◌, ◌^◌, ◌==◌, min, Bool, if◌then◌else◌, List, length, map, slice_index_or}
use Rattle.std.specs.Int.{bit_at, div_ceil}
use Rattle.std.specs.List.{range_with_len}

-- the bit of a number: 1 where it is a member, else 0; numbers behind the last word are no members
abbrev pub bit_of : List ℕ → ℕ → ℕ
bit_of words number = bit_at (slice_index_or words (number / 64) 0) (number % 64)

-- which of the numbers below a count are members
abbrev pub flags_of : ℕ → List ℕ → List Bool
flags_of count words = map (λ (number : ℕ). bit_of words number == 1) (range_with_len 0 count)

-- a set after a number was made a member, or taken out
pub record IsPut (old : List ℕ) (number : ℕ) (member : Bool) (new : List ℕ) : Type 0 where
  pub each : length new ≡ length old
  pub here : bit_of new number ≡ (if member then 1 else 0)
  pub others : (other : ℕ) → other ≢ number → bit_of new other ≡ bit_of old other
  pub words : (word : ℕ) → word ≢ number / 64 → slice_index_or new word 0 ≡ slice_index_or old word 0

-- the least number of a set
pub record IsLeastOf (words : List ℕ) (number : ℕ) : Type 0 where
  pub member : bit_of words number ≡ 1
  pub before : (other : ℕ) → other < number → bit_of words other ≡ 0

-- a set of tiles as it is kept: words for so many tiles, of which no other number is a member, and over them the set of the words that have
-- members; tiles have 32-bit numbers
pub record IsLeastSet (count : ℕ) (words filled : List ℕ) : Type 0 where
  pub few : count < 2 ^ 32
  pub each : length words ≡ div_ceil count 64
  pub over : length filled ≡ div_ceil (length words) 64
  pub within : (number : ℕ) → count ≤ number → bit_of words number ≡ 0
  pub filled_are : (word : ℕ) → bit_of filled word ≡ min 1 (slice_index_or words word 0)
