-- What a search keeps from step to step: `at` is what it knows of each vertex, and `waiting` are the entries of those still to be closed.
use Rattle.std.specs.Prelude.{◌≡◌, ◌≢◌, ℕ, ◌+◌, ◌*◌, ◌<◌, ◌≤◌, ◌⊎◌, ◌==◌, if◌then◌else◌, List, length, All, Contains}
use Rattle.std.specs.List.{sum_by}
use Rattle.graph_search.specs.declared.radix_heap.HeapEntry.{HeapEntry}
use Rattle.graph_search.specs.declared.graph.Vertex.{Vertex}
use Rattle.graph_search.specs.declared.graph.Arc.{Arc}
use Rattle.graph_search.specs.declared.graph.Step.{Step}
use Rattle.graph_search.specs.declared.graph.Walk.{Walk}
use Rattle.graph_search.specs.declared.visits.Visit.{Visit}
use Rattle.graph_search.specs.Walks.{arc_of, Walks, cost_of}
use Rattle.graph_search.specs.Visited.{IsSeen, IsClosed}
use Rattle.graph_search.specs.Entries.{entry}

-- a step to a vertex takes an arc from a closed vertex, closed earlier where both are, and the costs add up
pub record IsStepTo (arcs : Vertex → List Arc) (at : Vertex → Visit) (v : Vertex) (step : Step) : Type 0 where
  pub there : step.place < length (arcs step.from)
  pub enters : (arc_of arcs step).to ≡ v
  pub adds_up : (at v).cost ≡ (at step.from).cost + (arc_of arcs step).weight
  pub leaves : IsClosed (at step.from)
  pub earlier : IsClosed (at v) → (at step.from).rank < (at v).rank

-- the last steps form a tree: the start costs nothing, and every other vertex seen has a last step
pub record IsTree (arcs : Vertex → List Arc) (start : Vertex) (at : Vertex → Visit) : Type 0 where
  pub begins : (at start).cost ≡ 0
  pub steps : (v : Vertex) → IsSeen (at v) → (v ≡ start) ⊎ IsStepTo arcs at v (at v).last
  pub seen : (v : Vertex) → IsClosed (at v) → IsSeen (at v)

-- the last steps lead from closed vertices to closed vertices of lower rank, down to the start
pub record IsRanked (start : Vertex) (at : Vertex → Visit) : Type 0 where
  pub steps : (v : Vertex) → IsClosed (at v) → v ≢ start → IsClosed (at (at v).last.from) × ((at (at v).last.from).rank < (at v).rank)

-- an entry stands for a vertex seen, with a key that is no less than its cost and estimate
pub record IsEntry (estimate : Vertex → ℕ) (at : Vertex → Visit) (key : ℕ) (v : Vertex) : Type 0 where
  pub reached : IsSeen (at v)
  pub no_less : (at v).cost + estimate v ≤ key

-- every vertex seen has its estimate, and waits with that and its cost where it is not closed; no entry has less than a closed vertex, and
-- no cost is above a limit
pub record IsKnown (vertices : List Vertex) (estimate : Vertex → ℕ) (at : Vertex → Visit) (waiting : List HeapEntry)
    (limit closed : ℕ) : Type 0 where
  pub there : (v : Vertex) → IsSeen (at v) → Contains vertices v
  pub waits : (v : Vertex) → IsSeen (at v) → (at v).rank ≡ 0 → Contains waiting (entry ((at v).cost + estimate v) v)
  pub entries : All (λ (e : HeapEntry). IsEntry estimate at e.key e.vertex) waiting
  pub order : (v : Vertex) → IsClosed (at v) → All (λ (e : HeapEntry). (at v).cost + estimate v ≤ e.key) waiting
  pub within : (v : Vertex) → IsSeen (at v) → (at v).cost ≤ limit
  pub estimates : (v : Vertex) → IsSeen (at v) → (at v).estimate ≡ estimate v
  pub ranks : (v : Vertex) → (at v).rank ≤ closed

-- a vertex was just closed: no closed vertex has a greater cost and estimate, and its arcs lead to no cost above the limit
pub record IsClosing (estimate : Vertex → ℕ) (heaviest : ℕ) (at : Vertex → Visit) (limit : ℕ) (vertex : Vertex) : Type 0 where
  pub closed : IsClosed (at vertex)
  pub greatest : (v : Vertex) → IsClosed (at v) → (at v).cost + estimate v ≤ (at vertex).cost + estimate vertex
  pub room : (at vertex).cost + heaviest ≤ limit

-- an arc leads to a vertex seen, at no less cost than is known
pub record IsRelaxed (arcs : Vertex → List Arc) (at : Vertex → Visit) (step : Step) : Type 0 where
  pub seen : IsSeen (at (arc_of arcs step).to)
  pub no_less : (at (arc_of arcs step).to).cost ≤ (at step.from).cost + (arc_of arcs step).weight

-- so do the first arcs of a vertex
abbrev pub AreRelaxed : (Vertex → List Arc) → (Vertex → Visit) → Vertex → ℕ → Type 0
AreRelaxed arcs at from count = (place : ℕ) → place < count → IsRelaxed arcs at (record { from = from; place = place })

-- so do all arcs of the closed vertices
pub record AllRelaxed (arcs : Vertex → List Arc) (at : Vertex → Visit) : Type 0 where
  pub each : (v : Vertex) → IsClosed (at v) → AreRelaxed arcs at v (length (arcs v))

-- so do all arcs of the closed vertices but one, and the first arcs of that
pub record AreBeingRelaxed (arcs : Vertex → List Arc) (at : Vertex → Visit) (vertex : Vertex) (count : ℕ) : Type 0 where
  pub others : (v : Vertex) → v ≢ vertex → IsClosed (at v) → AreRelaxed arcs at v (length (arcs v))
  pub first : AreRelaxed arcs at vertex count

-- no rank has changed, nor the cost of a closed vertex
pub record KeepsRanks (old new : Vertex → Visit) : Type 0 where
  pub same : (v : Vertex) → (new v).rank ≡ (old v).rank
  pub costs : (v : Vertex) → IsClosed (old v) → (new v).cost ≡ (old v).cost

-- the first arcs of a vertex were followed: what holds from then on, and what has changed since something was known before
pub record IsFollowing (vertices : List Vertex) (arcs : Vertex → List Arc) (estimate : Vertex → ℕ) (heaviest : ℕ) (vertex : Vertex) (closed : ℕ)
    (before : Vertex → Visit) (waited : List HeapEntry) (at : Vertex → Visit) (waiting : List HeapEntry) (count added : ℕ) : Type 0 where
  pub known : IsKnown vertices estimate at waiting (closed * heaviest) closed
  pub closing : IsClosing estimate heaviest at (closed * heaviest) vertex
  pub relaxing : AreBeingRelaxed arcs at vertex count
  pub tree : (start : Vertex) → IsTree arcs start before → IsTree arcs start at
  pub ranks : KeepsRanks before at
  pub cost : (at vertex).cost ≡ (before vertex).cost
  pub more : length waiting ≤ length waited + added

-- a vertex as it is when it is closed
abbrev pub closed_as : ℕ → Visit → Visit
closed_as rank visit = record { cost = visit.cost; estimate = visit.estimate; rank = rank; last = visit.last }

-- what is known at the beginning: the start costs nothing and has its estimate, no other vertex was seen, and none is closed
pub record IsBegun (start : Vertex) (left : ℕ) (at : Vertex → Visit) : Type 0 where
  pub begins : (at start).cost ≡ 0
  pub estimate : (at start).estimate ≡ left
  pub only : (v : Vertex) → IsSeen (at v) → v ≡ start
  pub unclosed : (v : Vertex) → (at v).rank ≡ 0

-- what the vertices that are not closed count together
abbrev pub sum_open : (Vertex → ℕ) → (Vertex → Visit) → List Vertex → ℕ
sum_open count at vertices = sum_by (λ (v : Vertex). if (at v).rank == 0 then count v else 0) vertices

-- a walk from the start to a vertex, with its cost, which is the one known of that vertex
pub record IsWalkTo (arcs : Vertex → List Arc) (at : Vertex → Visit) (start to : Vertex) (walk : Walk) : Type 0 where
  pub walks : Walks arcs start walk.steps.items to
  pub adds_up : walk.cost ≡ cost_of arcs walk.steps.items
  pub known : walk.cost ≡ (at to).cost
