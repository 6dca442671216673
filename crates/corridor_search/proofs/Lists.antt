-- What a filter of a list keeps.
use Rattle.std.proofs.Common.{◌≡◌, Bool, true, false, cond, List, [], ◌∷◌, filter, refl, sym, subst, ap, ◌∙◌, ◌⊎◌, inl, inr}
use Rattle.std.specs.Prelude.{Contains}
use Rattle.std.proofs.lemmas.Bool.{both_ways}
use Rattle.std.proofs.lemmas.List.Elements.{All-contains, All-contains_itself, All-filter, filter_passes}
use Rattle.graph_search.proofs.Members.{contains_cases, contains_first, contains_later, contains_none}

-- what a filter kept is an element, and passes
pub kept_element : {X : Type 0} (p : X → Bool) (xs : List X) (x : X) → Contains (filter p xs) x → Contains xs x
kept_element p xs x held = All-contains (Contains xs) (filter p xs) x (All-filter p (Contains xs) xs (All-contains_itself xs)) held

pub kept_passes : {X : Type 0} (p : X → Bool) (xs : List X) (x : X) → Contains (filter p xs) x → p x ≡ true
kept_passes p xs x held = All-contains (λ y. p y ≡ true) (filter p xs) x (filter_passes p xs) held

-- an element that passes is kept
pub kept_if_passes : {X : Type 0} (p : X → Bool) (xs : List X) (x : X) → p x ≡ true → Contains xs x → Contains (filter p xs) x
kept_if_passes p [] x passes held = absurd (contains_none x held)
kept_if_passes {X = X} p (y ∷ ys) x passes held = by_test (p y) refl (contains_cases y x ys held) (kept_if_passes p ys x passes)
  where
    by_test : (b : Bool) → p y ≡ b → ((y ≡ x) ⊎ Contains ys x) → (Contains ys x → Contains (filter p ys) x) → Contains (cond b (y ∷ filter p ys) (filter p ys)) x
    by_test true is (inl same) rest = subst (λ (z : X). Contains (z ∷ filter p ys) x) (sym same) (contains_first x (filter p ys))
    by_test true is (inr later) rest = contains_later y x (filter p ys) (rest later)
    by_test false is (inl same) rest = absurd (both_ways (p y) is (ap p same ∙ passes))
    by_test false is (inr later) rest = rest later
