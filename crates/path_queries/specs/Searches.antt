-- What a search through a filter has done, and what is taken from its list.
use Rattle.std.specs.Prelude.{◌≡◌, ℕ, ◌*◌, ◌≤◌, Bool, List, [], ◌∷◌, length, map, take, slice_get, Some, Contains}
use Rattle.std.specs.List.{filter}
use Rattle.nav_base.specs.declared.point.Point.{Point}
use Rattle.mesh_types.specs.declared.links.PolyRef.{PolyRef}
use Rattle.mesh_types.specs.declared.mesh.Mesh.{Mesh}
use Rattle.graph_search.specs.declared.exploring.Limits.{Limits}
use Rattle.graph_search.specs.declared.exploring.ReachedVertex.{ReachedVertex}
use Rattle.graph_search.specs.declared.graph.Vertex.{Vertex}
use Rattle.graph_search.specs.Exploring.{IsExplored}
use Rattle.corridor_search.specs.MeshGraphs.{polygon_of, vertex_of, vertices_of}
use Rattle.corridor_search.specs.Estimates.{estimate_from, extent_at, middle_of}
use Rattle.path_queries.specs.declared.filters.Filter.{Filter}
use Rattle.path_queries.specs.declared.floods.Flooded.{Flooded}
use Rattle.path_queries.specs.Filters.{AreCosts, costs_in}
use Rattle.path_queries.specs.FilteredGraphs.{AreSearchCosts, IsLeastCost, filtered_arcs, leads_on}

-- what a search for one goal makes for: the middle of its polygon, each sixteenth at the least cost of an open area
pub record IsHeadingFor (mesh : Mesh) (areas : ℕ) (costs : List ℕ) (goal : PolyRef) (aim : Point) (least : ℕ) : Type 0 where
  pub middle : aim ≡ middle_of (extent_at mesh goal)
  pub least_cost : IsLeastCost areas costs least

-- a search through a filter from a polygon, up to the first of some goals: its costs, and its estimate, which is 0 at each goal, and
-- everywhere where there is none
pub record IsSearchedThrough (mesh : Mesh) (filter : Filter) (from : PolyRef) (goals : List PolyRef) (limits : Limits)
    (list : List ReachedVertex) (seen : ℕ) : Type 0 where
  pub search : List ℕ
  pub are : AreSearchCosts filter.areas (costs_in mesh filter) search
  pub costs_are : AreCosts search
  pub estimate : Vertex → ℕ
  pub no_rest : (goal : PolyRef) → Contains goals goal → estimate (vertex_of goal) ≡ 0
  pub no_goal : goals ≡ [] → (v : Vertex) → estimate v ≡ 0
  pub aim : Point
  pub least : ℕ
  pub estimate_is : (v : Vertex) → estimate v ≡ estimate_from mesh aim (polygon_of v) * least
  pub no_heading : goals ≡ [] → least ≡ 0
  pub heading : (goal : PolyRef) → goals ≡ goal ∷ [] → IsHeadingFor mesh filter.areas (costs_in mesh filter) goal aim least
  pub explored : IsExplored (filtered_arcs mesh filter.areas search from) estimate (vertex_of from) (map vertex_of goals) limits
      (length (vertices_of mesh)) (length (vertices_of mesh) * 2897000) list seen

-- a vertex that was reached stands for a polygon from which a walk may lead on
abbrev pub is_kept : Mesh → ℕ → PolyRef → ReachedVertex → Bool
is_kept mesh areas first entry = leads_on mesh areas first (polygon_of entry.vertex)

-- how many of those stand before a place
abbrev pub kept_before : Mesh → ℕ → PolyRef → List ReachedVertex → ℕ → ℕ
kept_before mesh areas first list place = length (filter (is_kept mesh areas first) (take place list))

-- the polygon of a vertex that was reached, as one of a flood
abbrev pub flooded_as : Mesh → ℕ → PolyRef → List ReachedVertex → ReachedVertex → Flooded
flooded_as mesh areas first list entry =
    record { at = polygon_of entry.vertex; cost = entry.cost; via = kept_before mesh areas first list entry.via }

-- the polygons of a flood
abbrev pub flooded_of : Mesh → ℕ → PolyRef → List ReachedVertex → List Flooded
flooded_of mesh areas first list = map (flooded_as mesh areas first list) (filter (is_kept mesh areas first) list)

-- no vertex was reached from a later one
abbrev pub AreViaNoLater : List ReachedVertex → Type 0
AreViaNoLater list = (k : ℕ) (entry : ReachedVertex) → slice_get list k ≡ Some entry → entry.via ≤ k
