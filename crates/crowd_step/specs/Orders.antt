-- Orders: who goes before others.
use Rattle.std.specs.Prelude.{◌≡◌, ℕ, ◌<◌, Contains, List}
use Rattle.crowd_moves.specs.declared.keyed.KeyedPlace.{KeyedPlace}

-- each of so many places is named
abbrev pub AreNamed : ℕ → List ℕ → Type 0
AreNamed count order = (i : ℕ) → i < count → Contains order i

-- a place has an entry
pub record IsEntered (entries : List KeyedPlace) (i : ℕ) : Type 0 where
  pub entry : KeyedPlace
  pub listed : Contains entries entry
  pub place : entry.place ≡ i

-- each of so many places has one
abbrev pub AreEntered : ℕ → List KeyedPlace → Type 0
AreEntered count entries = (i : ℕ) → i < count → IsEntered entries i
