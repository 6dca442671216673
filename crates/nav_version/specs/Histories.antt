-- The history of a pair: the list of the entries that were published, which only grows. It exists in proofs alone; the press has its length
-- in a word.
use Rattle.std.specs.Prelude.{◌≡◌, ℕ, ◌==◌, true, List, [], ◌∷◌, ◌++◌, length, MatchBool}
use Rattle.logbook.specs.Pages.{Cell, Step, View, Book, Named}
use Rattle.nav_ground.specs.declared.history.Entry.{Entry}

-- the first word is the length of the list. A book has two words, of which this one leaves the second at 0
abbrev pub IsCounted : List Cell → List Entry → Type 0
IsCounted cells entries = cells ≡ (length entries, true) ∷ (0, true) ∷ []

-- the word with the length
abbrev pub word_of : Book → Named
word_of pair = record { tracked = true; key = 0; book = pair }

-- the entry was added to all that had been seen; or the list was longer, and was seen
abbrev pub Adds : Step Entry → View Entry ℕ → ℕ → View Entry ℕ → Type 0
Adds step before found after = MatchBool (found == step.old) (after.0 ≡ before.0 ++ step.ask ∷ []) (length after.0 ≡ found)
