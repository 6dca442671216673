-- Ways: which questions for a way between two places may be asked, and which answers are right. Without limits the kind of a right answer and
-- its cost are determined by the question; of several cheapest allowed walks, and of several taut lines through one, any is right.
use Rattle.std.specs.Prelude.{◌≡◌, ℕ, ◌<◌, ◌≤◌, ◌^◌, List, length, ⊤}
use Rattle.nav_base.specs.Point.{HasCoordinates}
use Rattle.mesh_types.specs.declared.answers.Corridor.{Corridor}
use Rattle.mesh_types.specs.declared.answers.PathFound.{PathFound}
use Rattle.mesh_types.specs.declared.links.Link.{Link}
use Rattle.mesh_types.specs.declared.mesh.Mesh.{Mesh}
use Rattle.mesh_types.specs.declared.storeys.MeshPlace.{MeshPlace}
use Rattle.mesh_types.specs.Corridors.{cost_of}
use Rattle.mesh_types.specs.Places.{IsPlace}
use Rattle.mesh_types.specs.Right.{portals_of}
use Rattle.mesh_types.specs.Taut.{IsTaut}
use Rattle.path_queries.specs.Filters.{AllowedTo, IsCheapestAllowed, IsFilter, priced}
use Rattle.path_queries.specs.Reaches.{ArePlanLimits, IsDeep}
use Rattle.place_ways.specs.declared.ways.PlaceWayAnswer.{PlaceWayAnswer}
use Rattle.place_ways.specs.declared.ways.PlaceWayAnswer.TheVariants.{Way, Limit, NoStart, NoGoal, NoPath}
use Rattle.place_ways.specs.declared.ways.PlaceWayQuery.{PlaceWayQuery}
use Rattle.place_ways.specs.Corners.{AreCorners}

-- both points have coordinates, and the filter's own costs are costs
pub record CanAskWay (query : PlaceWayQuery) : Type 0 where
  pub from : HasCoordinates query.from.point
  pub goal : HasCoordinates query.goal.point
  pub filter : IsFilter query.filter

-- both places are places of the mesh
pub record ArePlaces (mesh : Mesh) (query : PlaceWayQuery) : Type 0 where
  pub start : IsPlace mesh query.from
  pub goal : IsPlace mesh query.goal

-- an allowed walk leads from the polygon of the one place to that of the other
abbrev pub Joins : Mesh → PlaceWayQuery → List Link → Type 0
Joins mesh query links = AllowedTo mesh query.filter.areas query.from.polygon links query.goal.polygon

-- a way: its links are a cheapest allowed walk from the one place's polygon to the other's, of the cost that it says; its line is taut in the
-- portals of those links; it costs no more than the question allows, and has no more links than polygons that it allows; and its corners are
-- those of that line, from the one place to the other
pub record IsWayBetween (mesh : Mesh) (query : PlaceWayQuery) (way : PathFound) (corners : List MeshPlace) : Type 0 where
  pub places : ArePlaces mesh query
  pub first : way.first ≡ query.from.polygon
  pub cheapest : IsCheapestAllowed mesh query.filter way.first query.goal.polygon (record { cost = way.cost; links = way.links })
  pub taut : IsTaut query.from.point (portals_of way.links) query.goal.point way.turns
  pub within_cost : way.cost ≤ query.most_cost
  pub within_count : length way.links ≤ query.most_polygons
  pub corners_are : AreCorners mesh query.from query.goal way.links way.turns corners

-- a cheapest allowed walk that joins them, within the limits of the question, and below those of a mesh
pub record IsCorridorOf (mesh : Mesh) (query : PlaceWayQuery) (corridor : Corridor) : Type 0 where
  pub cheapest : IsCheapestAllowed mesh query.filter query.from.polygon query.goal.polygon corridor
  pub within_cost : corridor.cost ≤ query.most_cost
  pub within_count : length corridor.links ≤ query.most_polygons
  pub low : corridor.cost < 2 ^ 45
  pub few : length corridor.links < 8000000

-- both are places, each allowed walk that joins their polygons costs at least what was seen, and the search was cut no sooner than its limits
-- say
pub record IsCutAt (mesh : Mesh) (query : PlaceWayQuery) (seen : ℕ) : Type 0 where
  pub places : ArePlaces mesh query
  pub beyond : (links : List Link) → Joins mesh query links → seen ≤ cost_of (priced mesh query.filter) links
  pub deep : IsDeep mesh query.filter.areas query.from.polygon query.most_cost query.most_polygons seen
  pub limited : ArePlanLimits query.most_cost query.most_polygons

-- both are places, and no allowed walk joins their polygons
pub record AreApart (mesh : Mesh) (query : PlaceWayQuery) : Type 0 where
  pub places : ArePlaces mesh query
  pub no_walk : (links : List Link) → Joins mesh query links → ⊥

-- an answer to the question for a way is right in a mesh
abbrev pub IsPlaceWay : PlaceWayQuery → Mesh → PlaceWayAnswer → Type 0
IsPlaceWay query mesh (Way way corners) = IsWayBetween mesh query way corners
IsPlaceWay query mesh (Limit seen) = IsCutAt mesh query seen
IsPlaceWay query mesh NoStart = IsPlace mesh query.from → ⊥
IsPlaceWay query mesh NoGoal = IsPlace mesh query.from × (IsPlace mesh query.goal → ⊥)
IsPlaceWay query mesh NoPath = AreApart mesh query

-- a way that was found costs less than 2 ^ 45
abbrev pub IsWayLow : PlaceWayAnswer → Type 0
IsWayLow (Way way corners) = way.cost < 2 ^ 45
IsWayLow (Limit seen) = ⊤
IsWayLow NoStart = ⊤
IsWayLow NoGoal = ⊤
IsWayLow NoPath = ⊤

-- right, and of low cost
abbrev pub IsRightPlaceWay : PlaceWayQuery → Mesh → PlaceWayAnswer → Type 0
IsRightPlaceWay query mesh answer = IsPlaceWay query mesh answer × IsWayLow answer

-- no limit may end a search: neither for cost nor for polygons, of which a mesh has at most 8000000
pub record IsUnlimited (query : PlaceWayQuery) : Type 0 where
  pub cost : 18446744073709551615 ≤ query.most_cost
  pub polygons : 8000000 < query.most_polygons

-- two answers are alike: of one kind, and ways cost the same
abbrev pub AreAlikeWays : PlaceWayAnswer → PlaceWayAnswer → Type 0
AreAlikeWays (Way a corners) (Way b corners') = a.cost ≡ b.cost
AreAlikeWays NoStart NoStart = ⊤
AreAlikeWays NoGoal NoGoal = ⊤
AreAlikeWays NoPath NoPath = ⊤
AreAlikeWays _ _ = ⊥
