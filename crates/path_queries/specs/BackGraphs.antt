-- The mesh as a graph that is searched back from a goal: its polygons are the vertices, and each link is an arc that weighs what its reverse
-- does, by which a walk toward the goal comes. No arc leaves a polygon of a closed area, since no allowed walk enters one.
use Rattle.std.specs.Prelude.{ℕ, ◌*◌, if◌then◌else◌, List, [], length, map}
use Rattle.nav_ground.specs.Limits.{IsSetting}
use Rattle.mesh_types.specs.declared.links.Link.{Link}
use Rattle.mesh_types.specs.declared.links.PolyRef.{PolyRef}
use Rattle.mesh_types.specs.declared.mesh.Mesh.{Mesh}
use Rattle.mesh_types.specs.Corridors.{weight_of}
use Rattle.mesh_types.specs.Passages.{IsTwoWay, reverse_of}
use Rattle.mesh_types.specs.Soundness.{IsSound}
use Rattle.graph_search.specs.declared.exploring.Limits.{Limits}
use Rattle.graph_search.specs.declared.exploring.ReachedVertex.{ReachedVertex}
use Rattle.graph_search.specs.declared.graph.Arc.{Arc}
use Rattle.graph_search.specs.declared.graph.Vertex.{Vertex}
use Rattle.graph_search.specs.Exploring.{IsExplored}
use Rattle.corridor_search.specs.MeshGraphs.{links_from, polygon_of, vertex_of, vertices_of}
use Rattle.corridor_search.specs.Estimates.{extent_at}
use Rattle.path_queries.specs.declared.floods.Flooded.{Flooded}
use Rattle.path_queries.specs.Filters.{AreCosts, is_open, with_costs}

-- the links by which a search back leaves a vertex: all where its area is open, else none
abbrev pub links_back : Mesh → ℕ → Vertex → List Link
links_back mesh areas v = if is_open areas (extent_at mesh (polygon_of v)).area then links_from mesh (polygon_of v) else []

-- the arc of a link that is walked the other way: over which edge its reverse leads weighs nothing
abbrev pub arc_back : Mesh → Link → Arc
arc_back mesh link = record { to = vertex_of link.to; weight = weight_of mesh (reverse_of 0 link) }

-- the arcs that leave a vertex, by the costs that the search goes by
abbrev pub arcs_back : Mesh → ℕ → List ℕ → Vertex → List Arc
arcs_back mesh areas costs v = map (arc_back (with_costs costs mesh)) (links_back mesh areas v)

-- nothing is estimated
abbrev pub no_estimate : Vertex → ℕ
no_estimate v = 0

-- a mesh that is searched back: it is sound, its setting keeps the rules, its links lead there and back, and the costs are costs
pub record IsSearchedBack (mesh : Mesh) (costs : List ℕ) : Type 0 where
  pub sound : IsSound mesh
  pub setting : IsSetting mesh.setting
  pub two_way : IsTwoWay mesh
  pub costs_are : AreCosts costs

-- what a search back from a polygon has done within limits
abbrev pub IsExploredBack : Mesh → ℕ → List ℕ → PolyRef → Limits → List ReachedVertex → ℕ → Type 0
IsExploredBack mesh areas costs last limits list seen =
    IsExplored (arcs_back mesh areas costs) no_estimate (vertex_of last) [] limits (length (vertices_of mesh))
    (length (vertices_of mesh) * 2897000) list seen

-- the polygon of a vertex that was reached, as one of a flood
abbrev pub flooded_back : ReachedVertex → Flooded
flooded_back entry = record { at = polygon_of entry.vertex; cost = entry.cost; via = entry.via }
