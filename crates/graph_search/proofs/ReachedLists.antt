-- Lists of reached vertices to which one comes.
use Rattle.std.proofs.Common.{◌≡◌, ℕ, zero, suc, ◌⊎◌, List, [], ◌∷◌, ◌++◌, length, refl, sym, ap, ◌∙◌, inl, inr}
use Rattle.std.specs.Prelude.{slice_get, Some}
use Rattle.std.proofs.lemmas.Option.{same_Some, none-some}
use Rattle.graph_search.specs.declared.exploring.ReachedVertex.{ReachedVertex}
use Rattle.graph_search.specs.declared.graph.Vertex.{Vertex}
use Rattle.graph_search.specs.declared.graph.Arc.{Arc}
use Rattle.graph_search.specs.Explored.{IsReachedBy, IsReached}

-- what stands at a place of a list to which an element came
pub get-pushed : {X : Type 0} (xs : List X) (x y : X) (k : ℕ) → slice_get (xs ++ x ∷ []) k ≡ Some y
    → (slice_get xs k ≡ Some y) ⊎ ((k ≡ length xs) × (x ≡ y))
get-pushed [] x y zero is = inr (refl, same_Some x y is)
get-pushed [] x y (suc k) is = absurd (none-some y is)
get-pushed (z ∷ xs) x y zero is = inl is
get-pushed (z ∷ xs) x y (suc k) is =
    elim (get-pushed xs x y k is) [
      | inl before ↦ inl before
      | inr last ↦ inr (ap suc last.0, last.1)
    ]

pub get-kept : {X : Type 0} (xs ys : List X) (y : X) (k : ℕ) → slice_get xs k ≡ Some y → slice_get (xs ++ ys) k ≡ Some y
get-kept [] ys y k is = absurd (none-some y is)
get-kept (z ∷ xs) ys y zero is = is
get-kept (z ∷ xs) ys y (suc k) is = get-kept xs ys y k is

pub get-last : {X : Type 0} (xs : List X) (x : X) → slice_get (xs ++ x ∷ []) (length xs) ≡ Some x
get-last [] x = refl
get-last (z ∷ xs) x = get-last xs x

-- two that stand at one place are one
pub get-one : {X : Type 0} (xs : List X) (a b : X) (k : ℕ) → slice_get xs k ≡ Some a → slice_get xs k ≡ Some b → a ≡ b
get-one xs a b k is is' = same_Some a b (sym is ∙ is')

-- what was reached is reached in a longer list
pub reached-by-kept : (arcs : Vertex → List Arc) (list more : List ReachedVertex) (k : ℕ) (entry : ReachedVertex) → IsReachedBy arcs list k entry
    → IsReachedBy arcs (list ++ more) k entry
reached-by-kept arcs list more k entry held = record {
  before = held.before;
  there = get-kept list more held.before entry.via held.there;
  earlier = held.earlier;
  leaves = held.leaves;
  enters = held.enters;
  adds_up = held.adds_up;
}

pub reached-kept : (list more : List ReachedVertex) (v : Vertex) → IsReached list v → IsReached (list ++ more) v
reached-kept list more v held = record { place = held.place; entry = held.entry; there = get-kept list more held.entry held.place held.there; is = held.is }
