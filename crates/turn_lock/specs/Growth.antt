-- How one list of entries goes on from another, where each entry names its maker by a number.
use Rattle.std.specs.Prelude.{◌≡◌, ◌≢◌, ℕ, List, [], ◌∷◌, ◌++◌, ◌⊎◌, Option, Some, All, filter, ◌==◌}

module _ {E : Type 0} (maker : E → ℕ) where
  -- the entries of one maker, in their order
  abbrev pub made_by : ℕ → List E → List E
  made_by number entries = filter (λ e. maker e == number) entries

  -- a list begins with what was seen of it, and all further entries are of other makers
  pub record Extends (number : ℕ) (seen now : List E) : Type 0 where
    pub rest : List E
    pub longer : now ≡ seen ++ rest
    pub others : All (λ e. maker e ≢ number) rest

  -- an act leaves the list, or adds one entry whose maker is the number that the act names
  abbrev pub Grows : Option ℕ → List E → List E → Type 0
  Grows by before after = (after ≡ before) ⊎ ((e : E) × (by ≡ Some (maker e)) × (after ≡ before ++ e ∷ []))
