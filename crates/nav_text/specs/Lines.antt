-- Texts as lines. A line ends with one line feed, which is byte 10; what no line feed ends is no line.
use Rattle.std.specs.Prelude.{◌≡◌, ℕ, take, drop, Bool, true, not, ◌==◌, if◌then◌else◌, List, [], ◌∷◌, ◌++◌, flat_map}
use Rattle.std.specs.List.{list_all}

-- a byte goes to the front of the first line, if there is a line
abbrev pub onto_line : ℕ → List (List ℕ) → List (List ℕ)
onto_line c [] = []
onto_line c (line ∷ more) = (c ∷ line) ∷ more

-- the lines of a text, without their line feeds
abbrev pub lines : List ℕ → List (List ℕ)
lines [] = []
lines (c ∷ text) = if c == 10 then [] ∷ lines text else onto_line c (lines text)

-- a line with its line feed
abbrev pub ended : List ℕ → List ℕ
ended line = line ++ 10 ∷ []

-- the text that has these lines
abbrev pub text_of : List (List ℕ) → List ℕ
text_of those = flat_map ended those

-- a text is empty or ends with a line feed, so that all of it is in its lines
abbrev pub is_ended : List ℕ → Bool
is_ended [] = true
is_ended (c ∷ []) = c == 10
is_ended (c ∷ d ∷ text) = is_ended (d ∷ text)

-- a line has no line feed in it
abbrev pub is_line : List ℕ → Bool
is_line line = list_all (λ c. not (c == 10)) line

-- the rest is what follows the first `count` lines of a text
pub record IsPast (text rest : List ℕ) (count : ℕ) : Type 0 where
  pub whole : text ≡ text_of (take count (lines text)) ++ rest
  pub left : lines rest ≡ drop count (lines text)
