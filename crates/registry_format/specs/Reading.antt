-- What words spell, read from the front.
use Rattle.std.specs.Prelude.{◌≡◌, ℕ, zero, suc, ◌+◌, ◌*◌, ◌^◌, ◌==◌, if◌then◌else◌, ◌≤◌, List, [], ◌∷◌, take, drop, length, get_or, Result, Ok, Err}
use Rattle.std.specs.Int.{w32, cast_signed, from_le_bytes}
use Rattle.nav_base.specs.declared.point.Point.{Point}
use Rattle.nav_ground.specs.declared.shape.Shape.{Shape}
use Rattle.nav_ground.specs.declared.shape.Shape.TheVariants.{Block, Cylinder, AreaBlock, AreaCylinder, Prism, Disc}
use Rattle.registry_format.specs.declared.reading.SavedFault.{SavedFault}
use Rattle.registry_format.specs.declared.reading.SavedFault.TheVariants.{NoMemory}
use Rattle.registry_format.specs.declared.saved.SavedObstacle.{SavedObstacle}
use Rattle.registry_format.specs.declared.saved.SavedRegistry.{SavedRegistry}

-- the word at a place; 0 behind the last
abbrev pub word_at : List ℕ → ℕ → ℕ
word_at words place = get_or words place 0

-- the number of 64 bits that two words are
abbrev pub wide_at : List ℕ → ℕ → ℕ
wide_at words place = word_at words place + 2 ^ 32 * word_at words (place + 1)

abbrev pub point_at : List ℕ → ℕ → Point
point_at words place = record { x = cast_signed w32 (word_at words place); z = cast_signed w32 (word_at words (place + 1)) }

-- shapes of each kind
abbrev pub block_of : List ℕ → Shape
block_of words =
    if word_at words 1 == 0
    then Block (word_at words 4) (word_at words 5) (word_at words 2) (word_at words 3) (word_at words 6) (word_at words 7)
    else AreaBlock (word_at words 1) (word_at words 4) (word_at words 5) (word_at words 2) (word_at words 3) (word_at words 6) (word_at words 7)

abbrev pub cylinder_of : List ℕ → Shape
cylinder_of words =
    if word_at words 1 == 0
    then Cylinder (word_at words 4) (word_at words 5) (word_at words 6) (word_at words 2) (word_at words 3)
    else AreaCylinder (word_at words 1) (word_at words 4) (word_at words 5) (word_at words 6) (word_at words 2) (word_at words 3)

abbrev pub prism_of : List ℕ → Shape
prism_of words =
    Prism
    (record {
      count = word_at words 4;
      corners = point_at words 5 ∷ point_at words 7 ∷ point_at words 9 ∷ point_at words 11 ∷ point_at words 13 ∷ point_at words 15 ∷ [];
    })
    (word_at words 1) (word_at words 2) (word_at words 3)

abbrev pub disc_of : List ℕ → Shape
disc_of words =
    Disc (point_at words 4).x (point_at words 4).z (word_at words 6) (word_at words 1) (word_at words 2) (word_at words 3)

-- the shape that words begin with
abbrev pub shape_of : List ℕ → Shape
shape_of words =
    if word_at words 0 == 0 then block_of words
    else if word_at words 0 == 1 then cylinder_of words
    else if word_at words 0 == 2 then prism_of words
    else disc_of words

-- the row that words begin with
abbrev pub row_of : List ℕ → SavedObstacle
row_of words = record { id = wide_at words 0; user = wide_at words 2; shape = shape_of (drop 4 words) }

-- so many rows
unfoldable pub rows_of : ℕ → List ℕ → List SavedObstacle
rows_of zero words = []
rows_of (suc n) words = row_of words ∷ rows_of n (drop 21 words)

-- what words spell, if they are those of a saved registry
unfoldable pub saved_of : List ℕ → SavedRegistry
saved_of words = record {
  field = record { width = word_at words 2; depth = word_at words 3; tile = word_at words 4; limit = word_at words 5 };
  last = wide_at words 6;
  version = wide_at words 8;
  rows = rows_of (word_at words 10) (drop 12 words);
  on = drop (12 + 21 * word_at words 10) words;
}

-- so many words, of four bytes each
unfoldable pub words_in : ℕ → List ℕ → List ℕ
words_in zero bytes = []
words_in (suc n) bytes = from_le_bytes w32 (take 4 bytes) ∷ words_in n (drop 4 bytes)

-- there are as many words as the head says
pub record HasLength (words : List ℕ) : Type 0 where
  pub head : 12 ≤ length words
  pub all : length words ≡ 12 + (21 * word_at words 10 + word_at words 11)

-- a saved registry was read, unless memory was refused
abbrev pub IsRead : SavedRegistry → Result SavedRegistry SavedFault → Type 0
IsRead saved (Ok read) = read ≡ saved
IsRead saved (Err why) = why ≡ NoMemory
