-- Lines that are a word and numbers, each behind one space.
use Rattle.std.specs.Prelude.{ℕ, zero, suc, ◌^◌, ◌<◌, Bool, true, ◌&&◌, ◌==◌, nat_eq, if◌then◌else◌, List, [], ◌∷◌, ◌++◌, length, drop, flat_map, Option, Some, None, option_and_then, decimal}
use Rattle.std.specs.Option.{option_map}
use Rattle.std.specs.List.{starts_with, AllByRecursion}
use Rattle.nav_base.specs.Number.{number_at}

-- the line of a word and numbers
abbrev pub line_text : List ℕ → List ℕ → List ℕ
line_text word numbers = word ++ flat_map (λ n. 32 ∷ decimal n) numbers

-- numbers that a line can hold
abbrev pub AreNumbers : List ℕ → Type 0
AreNumbers numbers = AllByRecursion (λ n. n < 2 ^ 32) numbers

-- the number behind a space at the front, and the bytes after it
unfoldable pub field_at : List ℕ → Option (ℕ × List ℕ)
field_at [] = None
field_at (c ∷ bytes) = if c == 32 then number_at bytes else None

-- so many numbers, each behind a space, and nothing else
unfoldable pub fields_of : ℕ → List ℕ → Option (List ℕ)
fields_of zero bytes = if length bytes == 0 then Some [] else None
fields_of (suc count) bytes = option_and_then (λ x. option_map (λ numbers. x.0 ∷ numbers) (fields_of count x.1)) (field_at bytes)

-- the numbers of a line that is the word and so many numbers
unfoldable pub numbers_of : List ℕ → ℕ → List ℕ → Option (List ℕ)
numbers_of word count line = if starts_with nat_eq line word then fields_of count (drop (length word) line) else None

-- the number behind the word at the front of a line, and the bytes after it
unfoldable pub number_after : List ℕ → List ℕ → Option (ℕ × List ℕ)
number_after word line = if starts_with nat_eq line word then field_at (drop (length word) line) else None

-- nothing follows, or a space
abbrev pub ends_word : List ℕ → Bool
ends_word [] = true
ends_word (c ∷ bytes) = c == 32

-- the line's first word is this one
abbrev pub has_word : List ℕ → List ℕ → Bool
has_word word line = starts_with nat_eq line word && ends_word (drop (length word) line)
