-- What is known of the vertices when it was written of one of them.
use Rattle.std.proofs.Common.{◌≡◌, ◌≢◌, ◌⊎◌, true, false, ap, sym, ◌∙◌, inl, inr}
use Rattle.std.specs.Prelude.{◌==◌, ◌&&◌, not}
use Rattle.std.proofs.lemmas.Bool.{cases_eq, both_ways, not-true, and_from, and_parts, eq-eqb, eqb-true}
use Rattle.graph_search.specs.declared.graph.Vertex.{Vertex}
use Rattle.graph_search.specs.declared.visits.Visit.{Visit}
use Rattle.graph_search.specs.Visited.{IsWritten}

-- two vertices are the same or not
pub same_or_not : (v w : Vertex) → (v ≡ w) ⊎ (v ≢ w)
same_or_not v w =
    elim (cases_eq v.block w.block) [
      | inl blocks ↦
          elim (cases_eq v.place w.place) [
            | inl places ↦ inl (λ i. record { block = blocks i; place = places i })
            | inr differ ↦ inr (λ is. differ (ap (λ (u : Vertex). u.place) is))
          ]
      | inr differ ↦ inr (λ is. differ (ap (λ (u : Vertex). u.block) is))
    ]

-- of each vertex what was written is known, or what was known before
pub written_or_kept : (old new : Vertex → Visit) (vertex : Vertex) (visit : Visit) → IsWritten old vertex visit new → (v : Vertex)
    → ((v ≡ vertex) × (new v ≡ visit)) ⊎ ((v ≢ vertex) × (new v ≡ old v))
written_or_kept old new vertex visit written v =
    elim (same_or_not v vertex) [
      | inl is ↦ inl (is, ap new is ∙ written.here)
      | inr differ ↦ inr (differ, written.others v differ)
    ]

-- what the tests of vertices say
pub apart_if : (v w : Vertex) → true ≡ not ((v.block == w.block) && (v.place == w.place)) → v ≢ w
apart_if v w test is =
    both_ways ((v.block == w.block) && (v.place == w.place)) (not-true _ (sym test))
    (and_from _ _ (eq-eqb _ _ (ap (λ (u : Vertex). u.block) is)) (eq-eqb _ _ (ap (λ (u : Vertex). u.place) is)))

pub same_if : (v w : Vertex) → true ≡ ((v.block == w.block) && (v.place == w.place)) → v ≡ w
same_if v w test =
    let parts = and_parts _ _ (sym test) in
    let blocks : v.block ≡ w.block = eqb-true _ _ parts.0 in
    let places : v.place ≡ w.place = eqb-true _ _ parts.1 in
    λ i. record { block = blocks i; place = places i }

pub apart_if_not : (v w : Vertex) → false ≡ ((v.block == w.block) && (v.place == w.place)) → v ≢ w
apart_if_not v w test is =
    both_ways ((v.block == w.block) && (v.place == w.place)) (sym test)
    (and_from _ _ (eq-eqb _ _ (ap (λ (u : Vertex). u.block) is)) (eq-eqb _ _ (ap (λ (u : Vertex). u.place) is)))
