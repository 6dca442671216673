-- What a search knows of the vertices, as a function of the vertex.
use Rattle.std.specs.Prelude.{◌≡◌, ◌≢◌, ℕ, ◌<◌, ◌≤◌, ◌==◌, if◌then◌else◌, List, slice_get, slice_index_or}
use Rattle.std.specs.Option.{option_map_or}
use Rattle.std.specs.declared.alloc.Global.{Global}
use Rattle.std.specs.declared.vec.Vec.{Vec}
use Rattle.graph_search.specs.declared.graph.Vertex.{Vertex}
use Rattle.graph_search.specs.declared.visits.Visit.{Visit}
use Rattle.graph_search.specs.declared.visits.StampedVisit.{StampedVisit}

-- what is known of a vertex that no walk was found to
abbrev pub unseen : Visit
unseen = record { cost = 18446744073709551615; estimate = 0; rank = 0; last = record { from = record { block = 0; place = 0 }; place = 0 } }

-- a walk was found to the vertex
abbrev pub IsSeen : Visit → Type 0
IsSeen visit = visit.cost < 18446744073709551615

-- the vertex was closed
abbrev pub IsClosed : Visit → Type 0
IsClosed visit = 0 < visit.rank

-- a vertex of which nothing was written
abbrev pub blank : StampedVisit
blank = record { stamp = 0; visit = unseen }

-- what a search with a stamp knows by what was written: what was written with another stamp it has not seen
abbrev pub visit_of : ℕ → StampedVisit → Visit
visit_of stamp written = if written.stamp == stamp then written.visit else unseen

-- what was written of a vertex on pages, one for each block
abbrev pub written_at : List (Vec StampedVisit Global) → Vertex → StampedVisit
written_at pages v = option_map_or (λ (page : Vec StampedVisit Global). slice_index_or page.items v.place blank) (slice_get pages v.block) blank

-- what a search with a stamp knows of a vertex by its pages
abbrev pub visit_in : ℕ → List (Vec StampedVisit Global) → Vertex → Visit
visit_in stamp pages v = visit_of stamp (written_at pages v)

-- what is known of each vertex, by pages and the stamp of the search
pub record Known : Type 0 where
  pub stamp : ℕ
  pub pages : List (Vec StampedVisit Global)

abbrev pub visit_at : Known → Vertex → Visit
visit_at known v = visit_in known.stamp known.pages v

-- nothing was written with a greater stamp
pub record AreStamped (stamp : ℕ) (pages : List (Vec StampedVisit Global)) : Type 0 where
  pub each : (v : Vertex) → (written_at pages v).stamp ≤ stamp

-- the same was written of every vertex
pub record KnowsAlike (old new : List (Vec StampedVisit Global)) : Type 0 where
  pub same : (v : Vertex) → written_at new v ≡ written_at old v

-- what is known of one vertex was written, and of all others it is as before
pub record IsWritten (old : Vertex → Visit) (vertex : Vertex) (visit : Visit) (new : Vertex → Visit) : Type 0 where
  pub here : new vertex ≡ visit
  pub others : (v : Vertex) → v ≢ vertex → new v ≡ old v

-- the same on pages
pub record IsWrittenIn (old : List (Vec StampedVisit Global)) (vertex : Vertex) (visit : StampedVisit) (new : List (Vec StampedVisit Global)) : Type 0 where
  pub here : written_at new vertex ≡ visit
  pub others : (v : Vertex) → v ≢ vertex → written_at new v ≡ written_at old v

-- the same on one page
pub record IsWrittenAt (old : List StampedVisit) (place : ℕ) (visit : StampedVisit) (new : List StampedVisit) : Type 0 where
  pub here : slice_index_or new place blank ≡ visit
  pub others : (k : ℕ) → k ≢ place → slice_index_or new k blank ≡ slice_index_or old k blank
