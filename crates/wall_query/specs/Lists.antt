-- Lists: what is appended to a list, in an order.
use Rattle.std.specs.Prelude.{◌≡◌, ℕ, ◌<◌, List, ◌++◌, length, get_or, Contains}

-- the elements of a list stand in an order
abbrev pub IsInOrder : {X : Type 0} → (X → X → Type 0) → List X → Type 0
IsInOrder {X = X} before list = (i k : ℕ) (d : X) → i < k → k < length list → before (get_or list i d) (get_or list k d)

-- a list after exactly those that have a property were appended, in an order
pub record Adds {X : Type 0} (before : X → X → Type 0) (P : X → Type 0) (old new : List X) : Type 0 where
  pub more : List X
  pub is : new ≡ old ++ more
  pub each : (x : X) → Contains more x → P x
  pub all : (x : X) → P x → Contains more x
  pub order : IsInOrder before more
