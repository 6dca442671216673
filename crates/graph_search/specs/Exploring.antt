-- What a search within limits keeps from step to step beside what it knows of vertices: the list of those that it closed.
use Rattle.std.specs.Prelude.{◌≡◌, ℕ, ◌+◌, ◌-◌, ◌<◌, ◌≤◌, ◌⊎◌, ◌==◌, if◌then◌else◌, List, length, slice_get, Some, Contains}
use Rattle.graph_search.specs.declared.exploring.Limits.{Limits}
use Rattle.graph_search.specs.declared.exploring.ReachedVertex.{ReachedVertex}
use Rattle.graph_search.specs.declared.graph.Vertex.{Vertex}
use Rattle.graph_search.specs.declared.graph.Arc.{Arc}
use Rattle.graph_search.specs.declared.visits.Visit.{Visit}
use Rattle.graph_search.specs.Visited.{IsClosed}
use Rattle.graph_search.specs.Explored.{AreReachedFrom, AreReachedOnce, AreInOrder, AreLeast, AreLimited, CostAtMost, HasAllBelow, StopsAt, HasEnded}

-- what comes into the list for a vertex that is closed next: of the first, no arc was taken
abbrev pub reached_as : (Vertex → Visit) → ℕ → Vertex → ReachedVertex
reached_as at closed v = record {
  vertex = v;
  cost = (at v).cost;
  via = if closed == 0 then 0 else (at (at v).last.from).rank - 1;
  place = if closed == 0 then 0 else (at v).last.place;
}

-- a vertex stands in the list at its rank, counted from 1
pub record IsListedAt (list : List ReachedVertex) (rank : ℕ) (v : Vertex) : Type 0 where
  pub place : ℕ
  pub entry : ReachedVertex
  pub there : slice_get list place ≡ Some entry
  pub is : entry.vertex ≡ v
  pub ranked : rank ≡ place + 1

-- the list has the closed vertices by their ranks, with their costs, and what is said of it holds so far; no stop is in it
pub record IsListing (arcs : Vertex → List Arc) (estimate : Vertex → ℕ) (from : Vertex) (stops : List Vertex) (limits : Limits) (most : ℕ)
    (at : Vertex → Visit) (list : List ReachedVertex) (closed : ℕ) : Type 0 where
  pub count : length list ≡ closed
  pub ranked : (k : ℕ) (entry : ReachedVertex) → slice_get list k ≡ Some entry → ((at entry.vertex).rank ≡ k + 1) × ((at entry.vertex).cost ≡ entry.cost)
  pub listed : (v : Vertex) → IsClosed (at v) → IsListedAt list (at v).rank v
  pub tree : 0 < closed → AreReachedFrom arcs from list
  pub least : AreLeast arcs from list
  pub order : AreInOrder estimate list
  pub limited : AreLimited estimate limits list
  pub costs : CostAtMost most list
  pub no_stop : (k : ℕ) (entry : ReachedVertex) → slice_get list k ≡ Some entry → Contains stops entry.vertex → ⊥

-- a limit forbids to close one more vertex, with a key, where some were closed
pub record IsBeyond (limits : Limits) (closed key : ℕ) : Type 0 where
  pub some : 0 < closed
  pub limit : (limits.key < key) ⊎ (limits.count ≤ closed)

-- or none does
abbrev pub IsWithin : Limits → ℕ → ℕ → Type 0
IsWithin limits closed key = 0 < closed → (key ≤ limits.key) × (closed < limits.count)

-- what a search within limits has done
pub record IsExplored (arcs : Vertex → List Arc) (estimate : Vertex → ℕ) (from : Vertex) (stops : List Vertex) (limits : Limits) (count most : ℕ)
    (list : List ReachedVertex) (seen : ℕ) : Type 0 where
  pub tree : AreReachedFrom arcs from list
  pub once : AreReachedOnce list
  pub least : AreLeast arcs from list
  pub order : AreInOrder estimate list
  pub limited : AreLimited estimate limits list
  pub within : HasAllBelow arcs estimate from seen list
  pub stopped : StopsAt estimate stops list seen
  pub ended : HasEnded stops limits list seen
  pub few : CostAtMost most list
  pub short : length list ≤ count
