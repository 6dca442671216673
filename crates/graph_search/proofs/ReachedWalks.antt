-- The walk to a vertex of a list of reached ones, back along the places.
use Rattle.std.proofs.Common.{zero, suc, ◌≤◌, inl, inr, ◌≡◌, ℕ, ◌+◌, ◌<◌, List, [], ◌∷◌, ◌++◌, length, reverse, refl, sym, subst, ap, ◌∙◌, arith}
use Rattle.std.specs.Prelude.{slice_get, Some}
use Rattle.std.proofs.lemmas.Bool.{cases_eq}
use Rattle.std.proofs.lemmas.List.{reverse-append}
use Rattle.graph_search.specs.declared.exploring.ReachedVertex.{ReachedVertex}
use Rattle.graph_search.specs.declared.graph.Vertex.{Vertex}
use Rattle.graph_search.specs.declared.graph.Arc.{Arc}
use Rattle.graph_search.specs.declared.graph.Step.{Step}
use Rattle.graph_search.specs.declared.graph.Walk.{Walk}
use Rattle.graph_search.specs.Walks.{arc_of, Walks, cost_of, IsCheapest}
use Rattle.graph_search.specs.Explored.{AreReachedFrom, AreLeast, AreViaEarlier, IsReachedBy, IsReachedWalk, step_from}
use Rattle.graph_search.proofs.ReachedLists.{get-one}
use Rattle.graph_search.proofs.Stopping.{cost_of-cons}

-- each vertex but the first of a tree was reached from an earlier one
pub tree-earlier : (arcs : Vertex → List Arc) (from : Vertex) (list : List ReachedVertex) → AreReachedFrom arcs from list → AreViaEarlier list
tree-earlier arcs from list tree k entry some is = (tree.steps k entry some is).earlier

-- the steps found so far, from the last on, are a walk from the vertex at a place to the one at another, and its cost is what that costs more
pub record IsWayIn (arcs : Vertex → List Arc) (list : List ReachedVertex) (at place : ℕ) (found : List Step) : Type 0 where
  pub here : ReachedVertex
  pub there : slice_get list at ≡ Some here
  pub last : ReachedVertex
  pub is_last : slice_get list place ≡ Some last
  pub walks : Walks arcs here.vertex (reverse found) last.vertex
  pub adds_up : here.cost + cost_of arcs (reverse found) ≡ last.cost

pub way-in-none : (arcs : Vertex → List Arc) (list : List ReachedVertex) (place : ℕ) (entry : ReachedVertex) → slice_get list place ≡ Some entry
    → IsWayIn arcs list place place []
way-in-none arcs list place entry is = record { here = entry; there = is; last = entry; is_last = is; walks = refl; adds_up = omega arith }

-- a step more
pub way-in-more : (arcs : Vertex → List Arc) (from : Vertex) (list : List ReachedVertex) (at place : ℕ) (found : List Step) (entry before : ReachedVertex)
    → AreReachedFrom arcs from list → 0 < at → slice_get list at ≡ Some entry → slice_get list entry.via ≡ Some before
    → IsWayIn arcs list at place found → IsWayIn arcs list entry.via place (found ++ step_from before entry ∷ [])
way-in-more arcs from list at place found entry before tree some is is' way =
    let reached = tree.steps at entry some is in
    let same = get-one list reached.before before entry.via reached.there is' in
    let same' = get-one list way.here entry at way.there is in
    let leaves = subst (λ (b : ReachedVertex). entry.place < length (arcs b.vertex)) same reached.leaves in
    let enters = subst (λ (b : ReachedVertex). (arc_of arcs (step_from b entry)).to ≡ entry.vertex) same reached.enters in
    let adds_up = subst (λ (b : ReachedVertex). entry.cost ≡ b.cost + (arc_of arcs (step_from b entry)).weight) same reached.adds_up in
    let walks = subst (λ (e : ReachedVertex). Walks arcs e.vertex (reverse found) way.last.vertex) same' way.walks in
    let cost : way.here.cost ≡ entry.cost = ap (λ (e : ReachedVertex). e.cost) same' in
    let step = step_from before entry in
    let front : step ∷ reverse found ≡ reverse (found ++ step ∷ []) = sym (reverse-append found (step ∷ [])) in
    record {
      here = before;
      there = is';
      last = way.last;
      is_last = way.is_last;
      walks = subst (λ (steps : List Step). Walks arcs before.vertex steps way.last.vertex) front
          (refl, leaves, subst (λ (u : Vertex). Walks arcs u (reverse found) way.last.vertex) (sym enters) walks);
      adds_up = ap (λ (steps : List Step). before.cost + cost_of arcs steps) (sym front)
          ∙ omega (arith, cost_of-cons arcs step (reverse found), adds_up, cost, way.adds_up);
    }

-- at the first the walk is whole
pub way-in-whole : (arcs : Vertex → List Arc) (from : Vertex) (list : List ReachedVertex) (at place : ℕ) (found : List Step) (entry : ReachedVertex) (walk : Walk)
    → AreReachedFrom arcs from list → at ≡ 0 → IsWayIn arcs list at place found → slice_get list place ≡ Some entry
    → walk.steps.items ≡ reverse found → walk.cost ≡ entry.cost → IsReachedWalk arcs from list place walk
way-in-whole arcs from list at place found entry walk tree first way is steps cost =
    let here = get-one list way.here _ 0 (ap (λ (n : ℕ). slice_get list n) (sym first) ∙ way.there) tree.begins in
    let last = get-one list way.last entry place way.is_last is in
    let walks = subst (λ (e : ReachedVertex). Walks arcs way.here.vertex (reverse found) e.vertex) last way.walks in
    let none : way.here.cost ≡ 0 = ap (λ (e : ReachedVertex). e.cost) here in
    let last_cost : way.last.cost ≡ entry.cost = ap (λ (e : ReachedVertex). e.cost) last in
    let same : cost_of arcs walk.steps.items ≡ cost_of arcs (reverse found) = ap (cost_of arcs) steps in
    record {
      entry = entry;
      there = is;
      walks = subst (λ (ss : List Step). Walks arcs from ss entry.vertex) (sym steps)
          (subst (λ (e : ReachedVertex). Walks arcs e.vertex (reverse found) entry.vertex) here walks);
      cost = cost;
      adds_up = omega (arith, cost, last_cost, none, same, way.adds_up);
    }

-- a walk to a vertex of the list, of which no walk costs less, is a cheapest
pub reached-cheapest : (arcs : Vertex → List Arc) (from : Vertex) (list : List ReachedVertex) (place : ℕ) (walk : Walk) → AreLeast arcs from list
    → (reached : IsReachedWalk arcs from list place walk) → IsCheapest arcs from reached.entry.vertex walk
reached-cheapest arcs from list place walk least reached = record {
  walks = reached.walks;
  adds_up = reached.adds_up;
  least = λ steps walks.
      let less = least place reached.entry steps reached.there walks in
      omega (arith, less, reached.cost);
}

-- a walk, and one step more
walks-more : (arcs : Vertex → List Arc) (steps : List Step) (v w : Vertex) (step : Step) → Walks arcs v steps w → step.from ≡ w
    → step.place < length (arcs step.from) → Walks arcs v (steps ++ step ∷ []) (arc_of arcs step).to
walks-more arcs [] v w step walk leaves below = (leaves ∙ sym walk, below, refl)
walks-more arcs (first ∷ steps) v w step walk leaves below =
    (walk.0, walk.1, walks-more arcs steps (arc_of arcs first).to w step walk.2 leaves below)

cost-more : (arcs : Vertex → List Arc) (steps : List Step) (step : Step)
    → cost_of arcs (steps ++ step ∷ []) ≡ cost_of arcs steps + (arc_of arcs step).weight
cost-more arcs [] step = omega (arith, cost_of-cons arcs step [])
cost-more arcs (first ∷ steps) step =
    omega (arith, cost_of-cons arcs first (steps ++ step ∷ []), cost_of-cons arcs first steps, cost-more arcs steps step)

-- a walk leads to a vertex, at the cost that is said
pub record IsLedTo (arcs : Vertex → List Arc) (from : Vertex) (entry : ReachedVertex) : Type 0 where
  pub steps : List Step
  pub walks : Walks arcs from steps entry.vertex
  pub adds_up : entry.cost ≡ cost_of arcs steps

led-first : (arcs : Vertex → List Arc) (from : Vertex) (list : List ReachedVertex) → AreReachedFrom arcs from list → (k : ℕ) (entry : ReachedVertex)
    → k ≡ 0 → slice_get list k ≡ Some entry → IsLedTo arcs from entry
led-first arcs from list tree k entry none is =
    let same = get-one list entry _ 0 (ap (λ (m : ℕ). slice_get list m) (sym none) ∙ is) tree.begins in
    subst (IsLedTo arcs from) (sym same) (record { steps = []; walks = refl; adds_up = refl })

led-more : (arcs : Vertex → List Arc) (from : Vertex) (list : List ReachedVertex) (k : ℕ) (entry : ReachedVertex)
    → (reached : IsReachedBy arcs list k entry) → IsLedTo arcs from reached.before → IsLedTo arcs from entry
led-more arcs from list k entry reached led =
    let step = step_from reached.before entry in
    record {
      steps = led.steps ++ step ∷ [];
      walks = subst (Walks arcs from (led.steps ++ step ∷ [])) reached.enters
          (walks-more arcs led.steps from reached.before.vertex step led.walks refl reached.leaves);
      adds_up = omega (arith, cost-more arcs led.steps step, led.adds_up, reached.adds_up);
    }

-- to each vertex of the list one does
pub led-to : (arcs : Vertex → List Arc) (from : Vertex) (list : List ReachedVertex) → AreReachedFrom arcs from list → (n k : ℕ) → k ≤ n
    → (entry : ReachedVertex) → slice_get list k ≡ Some entry → IsLedTo arcs from entry
led-to arcs from list tree zero k below entry is = led-first arcs from list tree k entry (omega (arith, below)) is
led-to arcs from list tree (suc n) k below entry is =
    elim (cases_eq k 0) [
      | inl none ↦ led-first arcs from list tree k entry none is
      | inr some ↦
          let reached = tree.steps k entry (omega (arith, some)) is in
          led-more arcs from list k entry reached
          (led-to arcs from list tree n entry.via (omega (arith, reached.earlier, below)) reached.before reached.there)
    ]
