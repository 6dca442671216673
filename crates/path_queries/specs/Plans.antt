-- Plans: which questions for a way may be asked, and which answers are right. Without limits the kind of a right answer is determined by the
-- question, and so are its first polygon and its cost, and how near a partial way comes to the goal; of several cheapest allowed walks, and of
-- several taut lines through one, any is right.
use Rattle.std.specs.Prelude.{◌≡◌, ℕ, ◌<◌, ◌≤◌, ◌^◌, List, length, Some, None, IfSome, ⊤}
use Rattle.nav_base.specs.Point.{HasCoordinates}
use Rattle.mesh_types.specs.declared.answers.Answer.{Answer}
use Rattle.mesh_types.specs.declared.answers.Answer.TheVariants as paths
use Rattle.mesh_types.specs.declared.answers.PathFound.{PathFound}
use Rattle.mesh_types.specs.declared.links.Link.{Link}
use Rattle.mesh_types.specs.declared.links.PolyRef.{PolyRef}
use Rattle.mesh_types.specs.declared.mesh.Mesh.{Mesh}
use Rattle.mesh_types.specs.declared.polygon.Polygon.{Polygon}
use Rattle.mesh_types.specs.Corridors.{cost_of}
use Rattle.mesh_types.specs.Located.{IsLocated}
use Rattle.mesh_types.specs.Right.{HasNoGoal, IsNowhere, portals_of}
use Rattle.mesh_types.specs.Taut.{IsTaut}
use Rattle.mesh_types.specs.WholeMesh.{poly_at}
use Rattle.path_queries.specs.declared.plans.PathQuery.{PathQuery}
use Rattle.path_queries.specs.declared.plans.PlanAnswer.{PlanAnswer}
use Rattle.path_queries.specs.declared.plans.PlanAnswer.TheVariants.{Whole, Nearest, Limit, NoStart, NoGoal, NoPath}
use Rattle.path_queries.specs.declared.plans.WayEnd.{WayEnd}
use Rattle.path_queries.specs.Filters.{AllowedTo, IsCheapestAllowed, IsFilter, priced}
use Rattle.path_queries.specs.PartialWays.{IsPartialAsked, IsPartialWay, nearness_at}
use Rattle.path_queries.specs.Reaches.{ArePlanLimits, IsDeep}

-- both points have coordinates, the filter's own costs are costs, and what a partial way is asked by is within its limits
pub record CanPlan (query : PathQuery) : Type 0 where
  pub from : HasCoordinates query.from
  pub goal : HasCoordinates query.goal
  pub filter : IsFilter query.filter
  pub partial : IfSome query.partial (IsPartialAsked query)

-- no partial way is asked for, both places are held, and no allowed walk leads from the polygon that locates the one to the polygon that
-- locates the other
pub record HasNoWay (mesh : Mesh) (query : PathQuery) : Type 0 where
  pub whole : query.partial ≡ None
  pub first : PolyRef
  pub start : IsLocated mesh query.from query.from_y first
  pub last : PolyRef
  pub goal : IsLocated mesh query.goal query.goal_y last
  pub no_walk : (links : List Link) → AllowedTo mesh query.filter.areas first links last → ⊥

-- no limit may end a search: neither for cost nor for polygons, of which a mesh has at most 8000000
pub record HasNoLimits (query : PathQuery) : Type 0 where
  pub cost : 18446744073709551615 ≤ query.most_cost
  pub polygons : 8000000 < query.most_polygons

-- no partial way is asked for, both places are held, each allowed walk that joins their polygons costs at least what was seen, and the search
-- was cut no sooner than its limits say
pub record IsLimited (mesh : Mesh) (query : PathQuery) (seen : ℕ) : Type 0 where
  pub whole : query.partial ≡ None
  pub first : PolyRef
  pub start : IsLocated mesh query.from query.from_y first
  pub last : PolyRef
  pub goal : IsLocated mesh query.goal query.goal_y last
  pub beyond : (links : List Link) → AllowedTo mesh query.filter.areas first links last → seen ≤ cost_of (priced mesh query.filter) links
  pub deep : IsDeep mesh query.filter.areas first query.most_cost query.most_polygons seen
  pub limited : ArePlanLimits query.most_cost query.most_polygons

-- a way begins in the polygon that locates the start; its links are a cheapest allowed walk from there to the polygon that locates the goal,
-- of the cost that it says, and its line is taut in the portals of those links; it costs no more than the question allows, and has no more
-- links than polygons that it allows. It ends at the goal, and the floor told is the least of that polygon
pub record IsWay (mesh : Mesh) (query : PathQuery) (found : PathFound) (end : WayEnd) : Type 0 where
  pub start : IsLocated mesh query.from query.from_y found.first
  pub goal : IsLocated mesh query.goal query.goal_y end.polygon
  pub at_goal : end.point ≡ query.goal
  pub last : Polygon
  pub there : poly_at mesh end.polygon ≡ Some last
  pub floor : end.y ≡ last.low
  pub cheapest : IsCheapestAllowed mesh query.filter found.first end.polygon (record { cost = found.cost; links = found.links })
  pub taut : IsTaut query.from (portals_of found.links) query.goal found.turns
  pub within_cost : found.cost ≤ query.most_cost
  pub within_count : length found.links ≤ query.most_polygons

-- an answer to a question for a way is right in a mesh
abbrev pub IsPlan : PathQuery → Mesh → PlanAnswer → Type 0
IsPlan query mesh (Whole found end) = IsWay mesh query found end
IsPlan query mesh (Nearest found end seen) = IsPartialWay mesh query found end seen
IsPlan query mesh (Limit seen) = IsLimited mesh query seen
IsPlan query mesh NoStart = IsNowhere mesh query.from query.from_y
IsPlan query mesh NoGoal = (query.partial ≡ None) × HasNoGoal mesh query.from query.from_y query.goal query.goal_y
IsPlan query mesh NoPath = HasNoWay mesh query

-- a way that was found costs less than 2 ^ 45
abbrev pub HasLowWayCost : PlanAnswer → Type 0
HasLowWayCost (Whole found end) = found.cost < 2 ^ 45
HasLowWayCost (Nearest found end seen) = found.cost < 2 ^ 45
HasLowWayCost (Limit seen) = ⊤
HasLowWayCost NoStart = ⊤
HasLowWayCost NoGoal = ⊤
HasLowWayCost NoPath = ⊤

-- right, and of low cost
abbrev pub IsRightPlan : PathQuery → Mesh → PlanAnswer → Type 0
IsRightPlan query mesh answer = IsPlan query mesh answer × HasLowWayCost answer

-- two answers are alike: of one kind, with the same first polygon and the same cost, and their ends are equally near to the goal
abbrev pub AreAlikePlans : PathQuery → Mesh → PlanAnswer → PlanAnswer → Type 0
AreAlikePlans query mesh (Whole a end) (Whole b end') = (a.first ≡ b.first) × (a.cost ≡ b.cost)
AreAlikePlans query mesh (Nearest a end seen) (Nearest b end' seen') =
    (a.first ≡ b.first) × (a.cost ≡ b.cost) × (nearness_at mesh query end ≡ nearness_at mesh query end')
AreAlikePlans query mesh NoStart NoStart = ⊤
AreAlikePlans query mesh NoGoal NoGoal = ⊤
AreAlikePlans query mesh NoPath NoPath = ⊤
AreAlikePlans query mesh _ _ = ⊥

-- an answer is like one to the question for a path: of that kind, with the same first polygon and the same cost; a partial way is told where
-- there is no goal or no path
abbrev pub IsPlanAsPath : PlanAnswer → Answer → Type 0
IsPlanAsPath (Whole a end) (paths.Path b) = (a.first ≡ b.first) × (a.cost ≡ b.cost)
IsPlanAsPath (Nearest a end seen) paths.NoGoal = ⊤
IsPlanAsPath (Nearest a end seen) paths.NoPath = ⊤
IsPlanAsPath NoStart paths.NoStart = ⊤
IsPlanAsPath NoGoal paths.NoGoal = ⊤
IsPlanAsPath NoPath paths.NoPath = ⊤
IsPlanAsPath _ _ = ⊥
