-- The walk along the last steps, back from a closed vertex to the start.
use Rattle.std.proofs.Common.{◌≡◌, ◌≢◌, ◌+◌, ◌<◌, List, [], ◌∷◌, ◌++◌, reverse, refl, sym, subst, ap, ◌∙◌, inl, inr, arith}
use Rattle.std.proofs.lemmas.List.{reverse-append}
use Rattle.graph_search.specs.declared.graph.Vertex.{Vertex}
use Rattle.graph_search.specs.declared.graph.Arc.{Arc}
use Rattle.graph_search.specs.declared.graph.Step.{Step}
use Rattle.graph_search.specs.declared.graph.Walk.{Walk}
use Rattle.graph_search.specs.declared.visits.Visit.{Visit}
use Rattle.graph_search.specs.Walks.{Walks, cost_of}
use Rattle.graph_search.specs.Visited.{IsClosed}
use Rattle.graph_search.specs.Searching.{IsStepTo, IsTree, IsRanked, IsWalkTo}
use Rattle.graph_search.proofs.Stopping.{cost_of-cons}

-- the last steps of a tree fall in rank
pub ranked-tree : (arcs : Vertex → List Arc) (start : Vertex) (at : Vertex → Visit) → IsTree arcs start at → IsRanked start at
ranked-tree arcs start at tree = record { steps = steps' }
  where
    steps' : (v : Vertex) → IsClosed (at v) → v ≢ start → IsClosed (at (at v).last.from) × ((at (at v).last.from).rank < (at v).rank)
    steps' v is_closed differ =
        elim (tree.steps v (tree.seen v is_closed)) [
          | inl is ↦ absurd (differ is)
          | inr step ↦ (step.leaves, step.earlier is_closed)
        ]

-- the steps found so far, from the last on, are a walk from a vertex to the goal, whose cost is what the goal costs more
pub record IsWayTo (arcs : Vertex → List Arc) (at : Vertex → Visit) (v to : Vertex) (found : List Step) : Type 0 where
  pub walks : Walks arcs v (reverse found) to
  pub adds_up : (at v).cost + cost_of arcs (reverse found) ≡ (at to).cost

pub way-none : (arcs : Vertex → List Arc) (at : Vertex → Visit) (to : Vertex) → IsWayTo arcs at to to []
way-none arcs at to = record { walks = refl; adds_up = omega arith }

-- a step more
pub way-more : (arcs : Vertex → List Arc) (at : Vertex → Visit) (start v to : Vertex) (found : List Step) → IsTree arcs start at → IsClosed (at v) → v ≢ start
    → IsWayTo arcs at v to found → IsWayTo arcs at (at v).last.from to (found ++ (at v).last ∷ [])
way-more arcs at start v to found tree is_closed differ way =
    elim (tree.steps v (tree.seen v is_closed)) [
      | inl is ↦ absurd (differ is)
      | inr step ↦ by_step (at v).last step
    ]
  where
    by_step : (last : Step) → IsStepTo arcs at v last → IsWayTo arcs at last.from to (found ++ last ∷ [])
    by_step last step =
        let front : last ∷ reverse found ≡ reverse (found ++ last ∷ []) = sym (reverse-append found (last ∷ [])) in
        record {
          walks = subst (λ (steps : List Step). Walks arcs last.from steps to) front
              (refl, step.there, subst (λ (u : Vertex). Walks arcs u (reverse found) to) (sym step.enters) way.walks);
          adds_up = ap (λ (steps : List Step). (at last.from).cost + cost_of arcs steps) (sym front) ∙ omega (arith, cost_of-cons arcs last (reverse found), step.adds_up, way.adds_up);
        }

-- at the start the walk is whole
pub way-whole : (arcs : Vertex → List Arc) (at : Vertex → Visit) (start v to : Vertex) (found : List Step) (walk : Walk) → IsTree arcs start at → v ≡ start
    → IsWayTo arcs at v to found → walk.steps.items ≡ reverse found → walk.cost ≡ (at to).cost → IsWalkTo arcs at start to walk
way-whole arcs at start v to found walk tree is way steps cost = record {
  walks = subst (λ (ss : List Step). Walks arcs start ss to) (sym steps) (subst (λ (u : Vertex). Walks arcs u (reverse found) to) is way.walks);
  adds_up =
      let none : (at v).cost ≡ 0 = ap (λ (u : Vertex). (at u).cost) is ∙ tree.begins in
      let same : cost_of arcs walk.steps.items ≡ cost_of arcs (reverse found) = ap (cost_of arcs) steps in
      omega (arith, none, same, cost, way.adds_up);
  known = cost;
}
