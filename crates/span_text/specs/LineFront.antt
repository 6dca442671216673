-- The front that the lines of one column's spans share.
use Rattle.std.specs.Prelude.{◌≡◌, ℕ, ◌≤◌, List, [], ◌∷◌, drop, codes}
use Rattle.nav_text.specs.Forms.{line_text}

-- what the line of a span in a column begins with: the word and the column's two numbers
abbrev pub front_text : ℕ → ℕ → List ℕ
front_text x z = line_text (codes "span") (x ∷ z ∷ [])

-- the bytes from a place on are the front of a column's lines
pub record IsFrontOf (x z : ℕ) (bytes : List ℕ) (from : ℕ) : Type 0 where
  pub within : from ≤ 32
  pub spelled : drop from bytes ≡ front_text x z
