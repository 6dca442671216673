-- The words behind the program's name.
use Rattle.std.specs.Prelude.{◌≡◌, ℕ, ◌≤◌, ◌⊎◌, List, [], ◌∷◌, map, Option, Some, None, codes, decimal, String, string_bytes}
use Rattle.std.specs.declared.alloc.Global.{Global}
use Rattle.nav_gen.specs.MadeField.{IsMadeSize}
use Rattle.nav_script.specs.declared.script.Way.{Way}
use Rattle.nav_script.specs.declared.script.Way.TheVariants.{Play, Live}
use Rattle.top_call.specs.declared.words.Command.{Command}
use Rattle.top_call.specs.declared.words.Command.TheVariants.{Read, Gen}
use Rattle.top_call.specs.declared.words.InputKind.{InputKind}
use Rattle.top_call.specs.declared.words.InputKind.TheVariants.{Script, Triangles}

-- the word that asks for an input to be read and run this way
abbrev pub word_for : Way → List ℕ
word_for Play = codes "play"
word_for Live = codes "live"

-- the words are the form `play` or `live` that asks for this way: its one word
abbrev pub IsWayForm : Way → List (String Global) → Type 0
IsWayForm way words = map string_bytes words ≡ word_for way ∷ []

-- the words ask for an input to be run: they are the form `play` or the form `live`
pub record IsRunForm (words : List (String Global)) : Type 0 where
  pub way : Way
  pub form : IsWayForm way words

-- the words are the form `raster`: its one word
abbrev pub IsRasterForm : List (String Global) → Type 0
IsRasterForm words = map string_bytes words ≡ codes "raster" ∷ []

-- the words ask for an input to be read: they are the form `play`, the form `live` or the form `raster`
abbrev pub IsReadForm : List (String Global) → Type 0
IsReadForm words = IsRunForm words ⊎ IsRasterForm words

-- the words are the form `gen NUMBER SIZE`: the word `gen`, and the spellings of this number of 32 bits and of this size that inputs are made in
pub record IsGenForm (number size : ℕ) (words : List (String Global)) : Type 0 where
  pub spelled : map string_bytes words ≡ codes "gen" ∷ decimal number ∷ decimal size ∷ []
  pub number_rules : number ≤ 4294967295
  pub size_rules : IsMadeSize size

-- the words are the form `gen NUMBER SIZE` with some number and some size
pub record IsGen (words : List (String Global)) : Type 0 where
  pub number : ℕ
  pub size : ℕ
  pub form : IsGenForm number size words

-- the words are a form
abbrev pub IsForm : List (String Global) → Type 0
IsForm words = IsReadForm words ⊎ IsGen words

-- the word that asks for an input to be read as one of this kind
abbrev pub kind_word : InputKind → List ℕ
kind_word (Script way) = word_for way
kind_word Triangles = codes "raster"

-- the words are the form that asks for an input of this kind: its one word
abbrev pub IsKindForm : InputKind → List (String Global) → Type 0
IsKindForm kind words = map string_bytes words ≡ kind_word kind ∷ []

-- what the words ask for, or that they are no form
abbrev pub AskFor : List (String Global) → Option Command → Type 0
AskFor words (Some (Read kind)) = IsKindForm kind words
AskFor words (Some (Gen number size)) = IsGenForm number size words
AskFor words None = ¬ IsForm words

-- what a text that is the one word asks for, or that it asks for nothing
abbrev pub AskAlone : List ℕ → Option Command → Type 0
AskAlone word (Some (Read kind)) = word ≡ kind_word kind
AskAlone word (Some (Gen number size)) = ⊥
AskAlone word None = ((way : Way) → ¬ (word ≡ word_for way)) × (¬ (word ≡ codes "raster"))

-- two texts spell a number of 32 bits and a size that inputs are made in
pub record AreMadeWords (number size : ℕ) (first second : List ℕ) : Type 0 where
  pub first_spelled : first ≡ decimal number
  pub number_rules : number ≤ 4294967295
  pub second_spelled : second ≡ decimal size
  pub size_rules : IsMadeSize size

-- what two texts behind `gen` ask for, or that they ask for nothing
abbrev pub AskBehindGen : (first second : List ℕ) → Option Command → Type 0
AskBehindGen first second (Some (Read kind)) = ⊥
AskBehindGen first second (Some (Gen number size)) = AreMadeWords number size first second
AskBehindGen first second None = (number size : ℕ) → ¬ AreMadeWords number size first second
