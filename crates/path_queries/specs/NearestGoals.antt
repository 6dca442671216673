-- NearestGoals: which questions for the nearest of many goals may be asked, and which answers are right. Without a limit the kind of a right
-- answer is determined, and so are its first polygon and its cost; of equally cheap goals any is right.
use Rattle.std.specs.Prelude.{◌≡◌, ℕ, ◌<◌, ◌≤◌, ◌^◌, List, length, slice_index_or, pos, All, ⊤}
use Rattle.nav_base.specs.Point.{HasCoordinates}
use Rattle.mesh_types.specs.declared.answers.PathFound.{PathFound}
use Rattle.mesh_types.specs.declared.links.Link.{Link}
use Rattle.mesh_types.specs.declared.links.PolyRef.{PolyRef}
use Rattle.mesh_types.specs.declared.mesh.Mesh.{Mesh}
use Rattle.mesh_types.specs.Corridors.{cost_of}
use Rattle.mesh_types.specs.Located.{IsLocated}
use Rattle.mesh_types.specs.Right.{IsNowhere, portals_of}
use Rattle.mesh_types.specs.Taut.{IsTaut}
use Rattle.path_queries.specs.declared.nearest.Goal.{Goal}
use Rattle.path_queries.specs.declared.nearest.NearestQuery.{NearestQuery}
use Rattle.path_queries.specs.declared.nearest.NearestAnswer.{NearestAnswer}
use Rattle.path_queries.specs.declared.nearest.NearestAnswer.TheVariants.{Found, Limit, NoStart, NoGoal, NoPath}
use Rattle.path_queries.specs.Filters.{AllowedTo, IsCheapestAllowed, IsFilter, priced}

-- the point of a goal has coordinates
abbrev pub HasGoalCoordinates : Goal → Type 0
HasGoalCoordinates goal = HasCoordinates goal.point

-- all points have coordinates, and the filter's own costs are costs
pub record CanAskNearest (query : NearestQuery) : Type 0 where
  pub from : HasCoordinates query.from
  pub goals : All HasGoalCoordinates query.goals
  pub filter : IsFilter query.filter

-- the goal at a place among goals; where there is none, the origin
abbrev pub goal_at : List Goal → ℕ → Goal
goal_at goals which = slice_index_or goals which (record { point = record { x = pos 0; z = pos 0 }; y = 0 })

-- a polygon locates the goal at a place among goals
pub record IsGoalIn (mesh : Mesh) (goals : List Goal) (which : ℕ) (at : PolyRef) : Type 0 where
  pub there : which < length goals
  pub located : IsLocated mesh (goal_at goals which).point (goal_at goals which).y at

-- a way to the goal at a place: it begins in the polygon that locates the start, its links are a cheapest allowed walk from there to the
-- polygon that locates the goal, and no allowed walk to another goal costs less; its line is taut in the portals of those links; it costs no
-- more than the question allows
pub record IsNearestWay (mesh : Mesh) (query : NearestQuery) (which : ℕ) (last : PolyRef) (way : PathFound) : Type 0 where
  pub start : IsLocated mesh query.from query.from_y way.first
  pub goal : IsGoalIn mesh query.goals which last
  pub cheapest : IsCheapestAllowed mesh query.filter way.first last (record { cost = way.cost; links = way.links })
  pub none_less : (other : ℕ) (at : PolyRef) (links : List Link) → IsGoalIn mesh query.goals other at
      → AllowedTo mesh query.filter.areas way.first links at → way.cost ≤ cost_of (priced mesh query.filter) links
  pub taut : IsTaut query.from (portals_of way.links) (goal_at query.goals which).point way.turns
  pub within_cost : way.cost ≤ query.most_cost

-- the start is held and so is some goal; each allowed walk to a goal costs at least what was seen, which is more than the question allows; and
-- the question has a limit
pub record HasSeenNone (mesh : Mesh) (query : NearestQuery) (seen : ℕ) : Type 0 where
  pub first : PolyRef
  pub start : IsLocated mesh query.from query.from_y first
  pub which : ℕ
  pub last : PolyRef
  pub goal : IsGoalIn mesh query.goals which last
  pub beyond : (other : ℕ) (at : PolyRef) (links : List Link) → IsGoalIn mesh query.goals other at
      → AllowedTo mesh query.filter.areas first links at → seen ≤ cost_of (priced mesh query.filter) links
  pub deep : query.most_cost < seen
  pub limited : query.most_cost < 18446744073709551615

-- the start is held, and none of the goals is
pub record HasNoGoals (mesh : Mesh) (query : NearestQuery) : Type 0 where
  pub first : PolyRef
  pub start : IsLocated mesh query.from query.from_y first
  pub none : (which : ℕ) → which < length query.goals → IsNowhere mesh (goal_at query.goals which).point (goal_at query.goals which).y

-- the start is held and so is some goal, and no allowed walk leads to any of them
pub record HasNoWayToGoals (mesh : Mesh) (query : NearestQuery) : Type 0 where
  pub first : PolyRef
  pub start : IsLocated mesh query.from query.from_y first
  pub which : ℕ
  pub last : PolyRef
  pub goal : IsGoalIn mesh query.goals which last
  pub no_walk : (other : ℕ) (at : PolyRef) (links : List Link) → IsGoalIn mesh query.goals other at
      → AllowedTo mesh query.filter.areas first links at → ⊥

-- an answer to a question for the nearest goal is right in a mesh
abbrev pub IsNearestGoal : NearestQuery → Mesh → NearestAnswer → Type 0
IsNearestGoal query mesh (Found which last way) = IsNearestWay mesh query which last way
IsNearestGoal query mesh (Limit seen) = HasSeenNone mesh query seen
IsNearestGoal query mesh NoStart = IsNowhere mesh query.from query.from_y
IsNearestGoal query mesh NoGoal = HasNoGoals mesh query
IsNearestGoal query mesh NoPath = HasNoWayToGoals mesh query

-- a way that was found costs less than 2 ^ 45
abbrev pub HasLowNearestCost : NearestAnswer → Type 0
HasLowNearestCost (Found which last way) = way.cost < 2 ^ 45
HasLowNearestCost (Limit seen) = ⊤
HasLowNearestCost NoStart = ⊤
HasLowNearestCost NoGoal = ⊤
HasLowNearestCost NoPath = ⊤

-- right, and of low cost
abbrev pub IsRightNearest : NearestQuery → Mesh → NearestAnswer → Type 0
IsRightNearest query mesh answer = IsNearestGoal query mesh answer × HasLowNearestCost answer

-- two answers are alike: of one kind, with the same first polygon and the same cost
abbrev pub AreAlikeNearest : NearestAnswer → NearestAnswer → Type 0
AreAlikeNearest (Found j u a) (Found k v b) = (a.first ≡ b.first) × (a.cost ≡ b.cost)
AreAlikeNearest NoStart NoStart = ⊤
AreAlikeNearest NoGoal NoGoal = ⊤
AreAlikeNearest NoPath NoPath = ⊤
AreAlikeNearest _ _ = ⊥
