-- Reached: ways to what a search for a partial way has reached.
use Rattle.std.specs.Prelude.{◌≡◌, ℕ, ◌<◌, ◌≤◌, ◌^◌, ◌⊎◌, true, List, [], ◌∷◌, length, slice_get, Some, Contains}
use Rattle.mesh_types.specs.declared.answers.PathFound.{PathFound}
use Rattle.mesh_types.specs.declared.links.PolyRef.{PolyRef}
use Rattle.mesh_types.specs.declared.mesh.Mesh.{Mesh}
use Rattle.mesh_types.specs.Located.{IsLocated}
use Rattle.mesh_types.specs.Rays.{IsHeldAt}
use Rattle.mesh_types.specs.Right.{portals_of}
use Rattle.mesh_types.specs.Taut.{IsTaut}
use Rattle.graph_search.specs.declared.exploring.Limits.{Limits}
use Rattle.graph_search.specs.declared.exploring.ReachedVertex.{ReachedVertex}
use Rattle.corridor_search.specs.MeshGraphs.{polygon_of}
use Rattle.path_queries.specs.declared.plans.PathQuery.{PathQuery}
use Rattle.path_queries.specs.declared.plans.WayEnd.{WayEnd}
use Rattle.path_queries.specs.Filters.{IsCheapestAllowed}
use Rattle.path_queries.specs.PartialWays.{IsOpenGoal}
use Rattle.path_queries.specs.Searches.{IsSearchedThrough, is_kept}

-- the goals of a search: the one polygon at which a walk to the goal may end, or none where there is none
pub record AreOpenGoals (mesh : Mesh) (query : PathQuery) (first : PolyRef) (goals : List PolyRef) : Type 0 where
  pub one : (goals ≡ []) ⊎ ((goal : PolyRef) × (goals ≡ goal ∷ []))
  pub each : (goal : PolyRef) → Contains goals goal → IsOpenGoal mesh query first goal
  pub all : (goal : PolyRef) → IsOpenGoal mesh query first goal → Contains goals goal

-- the limits of a question
abbrev pub limits_of : PathQuery → Limits
limits_of query = record { key = query.most_cost; count = query.most_polygons }

-- a list that a search from the polygon of the start has made
pub record IsReachedList (mesh : Mesh) (query : PathQuery) (list : List ReachedVertex) : Type 0 where
  pub first : PolyRef
  pub start : IsLocated mesh query.from query.from_y first
  pub goals : List PolyRef
  pub seen : ℕ
  pub searched : IsSearchedThrough mesh query.filter first goals (limits_of query) list seen

-- an end in a polygon of the list from which a walk may lead on
pub record IsEndOf (mesh : Mesh) (query : PathQuery) (list : List ReachedVertex) (place : ℕ) (end : WayEnd) : Type 0 where
  pub entry : ReachedVertex
  pub there : slice_get list place ≡ Some entry
  pub at : end.polygon ≡ polygon_of entry.vertex
  pub first : PolyRef
  pub start : IsLocated mesh query.from query.from_y first
  pub leads : is_kept mesh query.filter.areas first entry ≡ true
  pub held : IsHeldAt mesh end.point end.polygon

-- a cheapest way to an end
pub record IsWayTo (mesh : Mesh) (query : PathQuery) (list : List ReachedVertex) (place : ℕ) (end : WayEnd) (way : PathFound) : Type 0 where
  pub start : IsLocated mesh query.from query.from_y way.first
  pub cheapest : IsCheapestAllowed mesh query.filter way.first end.polygon (record { cost = way.cost; links = way.links })
  pub taut : IsTaut query.from (portals_of way.links) end.point way.turns
  pub cost_is : (entry : ReachedVertex) → slice_get list place ≡ Some entry → way.cost ≡ entry.cost
  pub within_cost : way.cost ≤ query.most_cost
  pub within_count : length way.links ≤ query.most_polygons
  pub low : way.cost < 2 ^ 45
