-- Choices: the first of the best items of a list.
use Rattle.std.specs.Prelude.{ℕ, Bool, List, [], ◌∷◌, Option, None, Some, if◌then◌else◌}
use Rattle.std.specs.List.{prefix_len, list_any}

-- an item that stands before the best of others: it stays unless the best of the others beats it
abbrev pub or_earlier : {X : Type 0} → (X → X → Bool) → X → Option X → X
or_earlier beats x None = x
or_earlier beats x (Some other) = if beats other x then other else x

-- the first of the items that no other beats
abbrev pub first_best : {X : Type 0} → (X → X → Bool) → List X → Option X
first_best beats [] = None
first_best beats (x ∷ xs) = Some (or_earlier beats x (first_best beats xs))

-- the first place whose element none beats
unfoldable pub first_best_place : {X : Type 0} → (X → X → Bool) → List X → ℕ
first_best_place beats xs = prefix_len (λ x. list_any (λ y. beats y x) xs) xs

-- the best of items, and one that stands behind them: it comes in only where it beats the best
abbrev pub or_later : {X : Type 0} → (X → X → Bool) → Option X → X → Option X
or_later beats None x = Some x
or_later beats (Some best) x = if beats x best then Some x else Some best
