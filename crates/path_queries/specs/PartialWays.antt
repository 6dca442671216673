-- PartialWays: the way to the nearest place to which one leads, where none leads to the goal.
use Rattle.std.specs.Prelude.{◌≡◌, ℕ, ◌+◌, ◌*◌, ◌<◌, ◌≤◌, ◌⊎◌, true, List, length, Some}
use Rattle.std.specs.Option.{option_map_or, unwrap_or}
use Rattle.nav_base.specs.declared.point.Point.{Point}
use Rattle.nav_base.specs.Deviation.{square_of}
use Rattle.nav_base.specs.Point.{from_to}
use Rattle.mesh_types.specs.declared.answers.PathFound.{PathFound}
use Rattle.mesh_types.specs.declared.links.Link.{Link}
use Rattle.mesh_types.specs.declared.links.PolyRef.{PolyRef}
use Rattle.mesh_types.specs.declared.mesh.Mesh.{Mesh}
use Rattle.mesh_types.specs.declared.polygon.Polygon.{Polygon}
use Rattle.mesh_types.specs.Corridors.{cost_of}
use Rattle.mesh_types.specs.Located.{Holds, IsLocated, height_gap}
use Rattle.mesh_types.specs.Right.{portals_of}
use Rattle.mesh_types.specs.Taut.{IsTaut}
use Rattle.mesh_types.specs.WholeMesh.{poly_at}
use Rattle.mesh_place.specs.HeldPoints.{IsNearestHeld}
use Rattle.corridor_search.specs.Estimates.{estimate_from, extent_at, middle_of}
use Rattle.path_queries.specs.declared.plans.PathQuery.{PathQuery}
use Rattle.path_queries.specs.declared.plans.WayEnd.{WayEnd}
use Rattle.path_queries.specs.Filters.{AllowedTo, IsCheapestAllowed, costs_in, priced}
use Rattle.path_queries.specs.FilteredGraphs.{IsLeastCost, leads_on}
use Rattle.path_queries.specs.Reaches.{ArePlanLimits, IsDeep}

-- a unit of height counts at most 1024 sixteenths, and the goal's height is at most 65535
pub record IsPartialAsked (query : PathQuery) (rise : ℕ) : Type 0 where
  pub most : rise ≤ 1024
  pub goal_y : query.goal_y ≤ 65535

-- how near a point of a polygon is to a place: the square of the distance in the plane, in sixteenths, and that of how far the height is
-- outside the polygon's floors, of which each unit counts `rise` sixteenths
abbrev pub nearness_of : ℕ → Point → ℕ → Polygon → Point → ℕ
nearness_of rise goal y polygon p = square_of (from_to goal p) + (rise * height_gap polygon y) * (rise * height_gap polygon y)

-- how near a way's end is to the goal
abbrev pub nearness_at : Mesh → PathQuery → WayEnd → ℕ
nearness_at mesh query end =
    option_map_or (λ (polygon : Polygon). nearness_of (unwrap_or query.partial 0) query.goal query.goal_y polygon end.point)
    (poly_at mesh end.polygon) 0

-- of two ends the first is nearer, or equally near and costs no more
abbrev pub IsNoWorse : ℕ → ℕ → ℕ → ℕ → Type 0
IsNoWorse near cost near' cost' = (near < near') ⊎ ((near ≡ near') × (cost ≤ cost'))

-- a walk may end at the goal: a polygon locates it, and is the one in which walks begin or of an open area
pub record IsOpenGoal (mesh : Mesh) (query : PathQuery) (first last : PolyRef) : Type 0 where
  pub located : IsLocated mesh query.goal query.goal_y last
  pub leads : leads_on mesh query.filter.areas first last ≡ true

-- what a search makes for: the middle of the polygon that locates the goal, each sixteenth at the least cost of an open area; where no walk may
-- end there it makes for nothing, and takes the rest of a way to be 0
pub record MakesFor (mesh : Mesh) (query : PathQuery) (first : PolyRef) (aim : Point) (least : ℕ) : Type 0 where
  pub last : PolyRef
  pub goal : IsOpenGoal mesh query first last
  pub middle : aim ≡ middle_of (extent_at mesh last)
  pub least_cost : IsLeastCost query.filter.areas (costs_in mesh query.filter) least

abbrev pub IsHeading : Mesh → PathQuery → PolyRef → Point → ℕ → Type 0
IsHeading mesh query first aim least =
    MakesFor mesh query first aim least ⊎ ((least ≡ 0) × ((last : PolyRef) → IsOpenGoal mesh query first last → ⊥))

-- what is left to go from a polygon: the straight way from its middle to the aim
abbrev pub rest_of : Mesh → Point → ℕ → PolyRef → ℕ
rest_of mesh aim least at = estimate_from mesh aim at * least

-- a spot: a point that a polygon holds to which an allowed walk leads
pub record IsSpot (mesh : Mesh) (query : PathQuery) (first at : PolyRef) (links : List Link) (polygon : Polygon) (p : Point) : Type 0 where
  pub there : poly_at mesh at ≡ Some polygon
  pub holds : Holds polygon p
  pub allowed : AllowedTo mesh query.filter.areas first links at

-- a search has seen all that it can reach where `seen` is the greatest number
abbrev pub IsAllSeen : ℕ → Type 0
IsAllSeen seen = seen ≡ 18446744073709551615

-- a partial way, where one is asked for. It begins in the polygon that locates the start; its links are a cheapest allowed walk from
-- there to the polygon of its end, which is the point of that polygon nearest to the goal, and its line is taut in the portals of those links.
-- No spot is nearer, and none as near costs less, of those whose cost together with the straight rest is less than what was seen; each allowed
-- walk to the goal, if there is one, costs at least that. The search was cut no sooner than its limits say
pub record IsPartialWay (mesh : Mesh) (query : PathQuery) (found : PathFound) (end : WayEnd) (seen : ℕ) : Type 0 where
  pub rise : ℕ
  pub asked : query.partial ≡ Some rise
  pub start : IsLocated mesh query.from query.from_y found.first
  pub cheapest : IsCheapestAllowed mesh query.filter found.first end.polygon (record { cost = found.cost; links = found.links })
  pub last : Polygon
  pub there : poly_at mesh end.polygon ≡ Some last
  pub nearest_held : IsNearestHeld last query.goal end.point
  pub floor : end.y ≡ last.low
  pub taut : IsTaut query.from (portals_of found.links) end.point found.turns
  pub aim : Point
  pub least : ℕ
  pub heading : IsHeading mesh query found.first aim least
  pub no_worse : (at : PolyRef) (links : List Link) (polygon : Polygon) (p : Point) → IsSpot mesh query found.first at links polygon p
      → IsAllSeen seen ⊎ (cost_of (priced mesh query.filter) links + rest_of mesh aim least at < seen)
      → IsNoWorse (nearness_of rise query.goal query.goal_y last end.point) found.cost (nearness_of rise query.goal query.goal_y polygon p)
      (cost_of (priced mesh query.filter) links)
  pub beyond : (goal : PolyRef) (links : List Link) → IsLocated mesh query.goal query.goal_y goal
      → AllowedTo mesh query.filter.areas found.first links goal → (seen < 18446744073709551615) × (seen ≤ cost_of (priced mesh query.filter) links)
  pub deep : IsAllSeen seen
      ⊎ (IsDeep mesh query.filter.areas found.first query.most_cost query.most_polygons seen × ArePlanLimits query.most_cost query.most_polygons)
  pub within_cost : found.cost ≤ query.most_cost
  pub within_count : length found.links ≤ query.most_polygons
