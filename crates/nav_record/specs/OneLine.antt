-- Texts of one line, and of several.
use Rattle.std.specs.Prelude.{◌≡◌, ℕ, IsTrue, List, length}
use Rattle.std.specs.List.{list_all}
use Rattle.nav_text.specs.Lines.{ended, is_line, text_of}

-- a text is a line without a line feed in it, and then one line feed
abbrev pub IsOneLine : List ℕ → Type 0
IsOneLine text = (line : List ℕ) × (text ≡ ended line) × IsTrue (is_line line)

-- a text is so many lines without a line feed in them, with one line feed behind each
abbrev pub HasLines : List ℕ → ℕ → Type 0
HasLines text count = (those : List (List ℕ)) × (text ≡ text_of those) × IsTrue (list_all is_line those) × (length those ≡ count)
