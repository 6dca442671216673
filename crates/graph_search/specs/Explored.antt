-- What a search within limits is said to have done: what it closed, in order, and how far it has seen.
use Rattle.std.specs.Prelude.{◌≡◌, ℕ, ◌+◌, ◌<◌, ◌≤◌, ◌⊎◌, List, length, slice_get, Some, Contains}
use Rattle.graph_search.specs.declared.exploring.Limits.{Limits}
use Rattle.graph_search.specs.declared.exploring.ReachedVertex.{ReachedVertex}
use Rattle.graph_search.specs.declared.graph.Vertex.{Vertex}
use Rattle.graph_search.specs.declared.graph.Arc.{Arc}
use Rattle.graph_search.specs.declared.graph.Step.{Step}
use Rattle.graph_search.specs.declared.graph.Walk.{Walk}
use Rattle.graph_search.specs.Walks.{arc_of, Walks, cost_of}

-- the step by which a vertex was reached from the one before it
abbrev pub step_from : ReachedVertex → ReachedVertex → Step
step_from before entry = record { from = before.vertex; place = entry.place }

-- a vertex was reached from one that is earlier in the list, by an arc that leaves it, and the costs add up
pub record IsReachedBy (arcs : Vertex → List Arc) (list : List ReachedVertex) (place : ℕ) (entry : ReachedVertex) : Type 0 where
  pub before : ReachedVertex
  pub there : slice_get list entry.via ≡ Some before
  pub earlier : entry.via < place
  pub leaves : entry.place < length (arcs before.vertex)
  pub enters : (arc_of arcs (step_from before entry)).to ≡ entry.vertex
  pub adds_up : entry.cost ≡ before.cost + (arc_of arcs (step_from before entry)).weight

-- the list begins with one vertex, at no cost, and each other was reached from an earlier one
pub record AreReachedFrom (arcs : Vertex → List Arc) (from : Vertex) (list : List ReachedVertex) : Type 0 where
  pub begins : slice_get list 0 ≡ Some (record { vertex = from; cost = 0; via = 0; place = 0 })
  pub steps : (k : ℕ) (entry : ReachedVertex) → 0 < k → slice_get list k ≡ Some entry → IsReachedBy arcs list k entry

-- a vertex is in the list
pub record IsReached (list : List ReachedVertex) (v : Vertex) : Type 0 where
  pub place : ℕ
  pub entry : ReachedVertex
  pub there : slice_get list place ≡ Some entry
  pub is : entry.vertex ≡ v

-- no vertex is in it twice
abbrev pub AreReachedOnce : List ReachedVertex → Type 0
AreReachedOnce list = (j k : ℕ) (a b : ReachedVertex) → slice_get list j ≡ Some a → slice_get list k ≡ Some b → a.vertex ≡ b.vertex → j ≡ k

-- cost and estimate together do not fall along the list
abbrev pub AreInOrder : (Vertex → ℕ) → List ReachedVertex → Type 0
AreInOrder estimate list =
    (j k : ℕ) (a b : ReachedVertex) → j ≤ k → slice_get list j ≡ Some a → slice_get list k ≡ Some b
    → a.cost + estimate a.vertex ≤ b.cost + estimate b.vertex

-- no walk to a vertex of the list costs less than is said there
abbrev pub AreLeast : (Vertex → List Arc) → Vertex → List ReachedVertex → Type 0
AreLeast arcs from list =
    (k : ℕ) (entry : ReachedVertex) (steps : List Step) → slice_get list k ≡ Some entry → Walks arcs from steps entry.vertex
    → entry.cost ≤ cost_of arcs steps

-- none but the first is there beyond the limits
abbrev pub AreLimited : (Vertex → ℕ) → Limits → List ReachedVertex → Type 0
AreLimited estimate limits list =
    (k : ℕ) (entry : ReachedVertex) → 0 < k → slice_get list k ≡ Some entry
    → (entry.cost + estimate entry.vertex ≤ limits.key) × (k < limits.count)

-- no cost is greater than a number
abbrev pub CostAtMost : ℕ → List ReachedVertex → Type 0
CostAtMost most list = (k : ℕ) (entry : ReachedVertex) → slice_get list k ≡ Some entry → entry.cost ≤ most

-- each vertex with a walk whose cost and estimate together are less than a number is in the list; where that is the greatest one, each
-- vertex to which a walk leads
abbrev pub HasAllBelow : (Vertex → List Arc) → (Vertex → ℕ) → Vertex → ℕ → List ReachedVertex → Type 0
HasAllBelow arcs estimate from seen list =
    (v : Vertex) (steps : List Step) → Walks arcs from steps v → (cost_of arcs steps + estimate v < seen) ⊎ (seen ≡ 18446744073709551615)
    → IsReached list v

-- a vertex at which the search was to stop is the last of the list, and it has seen as far as the cost and estimate of that
abbrev pub StopsAt : (Vertex → ℕ) → List Vertex → List ReachedVertex → ℕ → Type 0
StopsAt estimate stops list seen =
    (k : ℕ) (entry : ReachedVertex) → slice_get list k ≡ Some entry → Contains stops entry.vertex
    → (k + 1 ≡ length list) × (seen ≡ entry.cost + estimate entry.vertex)

-- a vertex at which the search was to stop was closed
pub record HasStopped (stops : List Vertex) (list : List ReachedVertex) : Type 0 where
  pub stop : Vertex
  pub stops_there : Contains stops stop
  pub reached : IsReached list stop

-- why the search ended: no vertex was left, or it was stopped, or the next would have been beyond a limit
abbrev pub HasEnded : List Vertex → Limits → List ReachedVertex → ℕ → Type 0
HasEnded stops limits list seen =
    (seen ≡ 18446744073709551615) ⊎ HasStopped stops list ⊎ (limits.key < seen) ⊎ (limits.count ≤ length list)

-- each vertex but the first was reached from an earlier one
abbrev pub AreViaEarlier : List ReachedVertex → Type 0
AreViaEarlier list = (k : ℕ) (entry : ReachedVertex) → 0 < k → slice_get list k ≡ Some entry → entry.via < k

-- a walk from a vertex to the one at a place of the list, which costs what is said there
pub record IsReachedWalk (arcs : Vertex → List Arc) (from : Vertex) (list : List ReachedVertex) (place : ℕ) (walk : Walk) : Type 0 where
  pub entry : ReachedVertex
  pub there : slice_get list place ≡ Some entry
  pub walks : Walks arcs from walk.steps.items entry.vertex
  pub cost : walk.cost ≡ entry.cost
  pub adds_up : walk.cost ≡ cost_of arcs walk.steps.items
