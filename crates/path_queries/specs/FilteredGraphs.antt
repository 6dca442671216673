-- The mesh as a filter lets it be walked, as a graph: its polygons are the vertices, and its links the arcs, but none leaves a polygon of a
-- closed area other than the one in which walks begin.
use Rattle.std.specs.Prelude.{◌≡◌, ℕ, ◌*◌, ◌<◌, ◌≤◌, Bool, true, false, ◌==◌, ◌&&◌, ◌||◌, if◌then◌else◌, List, [], length, map, slice_index}
use Rattle.nav_base.specs.declared.point.Point.{Point}
use Rattle.nav_base.specs.Point.{IsInField}
use Rattle.nav_ground.specs.Limits.{IsArea, IsSetting}
use Rattle.mesh_types.specs.declared.links.Link.{Link}
use Rattle.mesh_types.specs.declared.links.PolyRef.{PolyRef}
use Rattle.mesh_types.specs.declared.mesh.Mesh.{Mesh}
use Rattle.mesh_types.specs.Soundness.{IsSound}
use Rattle.graph_search.specs.declared.graph.Vertex.{Vertex}
use Rattle.graph_search.specs.declared.graph.Arc.{Arc}
use Rattle.corridor_search.specs.MeshGraphs.{arc_over, links_from, polygon_of}
use Rattle.corridor_search.specs.Estimates.{estimate_from, extent_at}
use Rattle.path_queries.specs.Filters.{AreCosts, is_open, with_costs}

-- the costs that a search goes by: those of open areas, and the greatest for closed ones, which no allowed walk enters
pub record AreSearchCosts (areas : ℕ) (costs search : List ℕ) : Type 0 where
  pub count : length search ≡ 64
  pub of_open : (area : ℕ) → area < 64 → is_open areas area ≡ true → slice_index search area ≡ slice_index costs area
  pub of_closed : (area : ℕ) → area < 64 → is_open areas area ≡ false → slice_index search area ≡ 1000

-- the least cost of an open area, 1000 where none is open: the greatest number up to there that no open area costs less than
pub record IsLeastCost (areas : ℕ) (costs : List ℕ) (least : ℕ) : Type 0 where
  pub most : least ≤ 1000
  pub below : (area : ℕ) → IsArea area → is_open areas area ≡ true → least ≤ slice_index costs area
  pub greatest : (other : ℕ) → other ≤ 1000 → ((area : ℕ) → IsArea area → is_open areas area ≡ true → other ≤ slice_index costs area)
      → other ≤ least

-- a walk may lead on from a polygon: it is the one in which walks begin, or its area is open
abbrev pub leads_on : Mesh → ℕ → PolyRef → PolyRef → Bool
leads_on mesh areas start at = at.tile == start.tile && at.index == start.index || is_open areas (extent_at mesh at).area

-- the links by which a walk may leave a vertex
abbrev pub filtered_links : Mesh → ℕ → PolyRef → Vertex → List Link
filtered_links mesh areas start v = if leads_on mesh areas start (polygon_of v) then links_from mesh (polygon_of v) else []

-- the arcs that leave a vertex, by the costs that the search goes by
abbrev pub filtered_arcs : Mesh → ℕ → List ℕ → PolyRef → Vertex → List Arc
filtered_arcs mesh areas costs start v = map (arc_over (with_costs costs mesh)) (filtered_links mesh areas start v)

-- the estimate of what is left to go from a vertex: the distance to the aim, at the least cost of an open area
abbrev pub filtered_estimates : Mesh → Point → ℕ → Vertex → ℕ
filtered_estimates mesh aim least v = estimate_from mesh aim (polygon_of v) * least

-- a mesh that is searched through a filter: it is sound, its setting keeps the rules, the costs are costs, the aim lies in the field, and
-- no area costs less than the least
pub record IsFiltered (mesh : Mesh) (costs : List ℕ) (aim : Point) (least : ℕ) : Type 0 where
  pub sound : IsSound mesh
  pub setting : IsSetting mesh.setting
  pub costs_are : AreCosts costs
  pub in_field : IsInField aim
  pub most : least ≤ 1000
  pub below : (area : ℕ) → IsArea area → least ≤ slice_index costs area
