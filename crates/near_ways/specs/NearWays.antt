-- Near ways: which questions for a way between the places nearest to two points may be asked, and which answers are right.
use Rattle.std.specs.Prelude.{◌<◌, ◌≤◌}
use Rattle.mesh_place.specs.declared.near.NearAnswer.TheVariants.{NoneInReach}
use Rattle.mesh_place.specs.Nearest.{CanAskNear, IsNearest, IsRightNear}
use Rattle.mesh_types.specs.declared.mesh.Mesh.{Mesh}
use Rattle.mesh_types.specs.declared.storeys.MeshPlace.{MeshPlace}
use Rattle.near_ways.specs.declared.snapped.NearWayQuery.{NearWayQuery}
use Rattle.path_queries.specs.Filters.{IsFilter}
use Rattle.place_ways.specs.declared.ways.PlaceWayAnswer.{PlaceWayAnswer}
use Rattle.place_ways.specs.declared.ways.PlaceWayAnswer.TheVariants.{Way, Limit, NoStart, NoGoal, NoPath}
use Rattle.place_ways.specs.declared.ways.PlaceWayQuery.{PlaceWayQuery}
use Rattle.place_ways.specs.Ways.{IsPlaceWay, IsWayLow}

-- places may be looked for near both points, and the filter's own costs are costs
pub record CanAskNearWay (query : NearWayQuery) : Type 0 where
  pub from : CanAskNear query.from
  pub goal : CanAskNear query.goal
  pub filter : IsFilter query.filter

-- the question for a way between two places, through the same filter and within the same limits
abbrev pub joining : NearWayQuery → MeshPlace → MeshPlace → PlaceWayQuery
joining query from goal = record {
  from = from;
  goal = goal;
  filter = query.filter;
  most_cost = query.most_cost;
  most_polygons = query.most_polygons;
}

-- each point has a nearest place, and the answer is right between these two
pub record IsJoining (query : NearWayQuery) (mesh : Mesh) (answer : PlaceWayAnswer) : Type 0 where
  pub from : MeshPlace
  pub start : IsNearest mesh query.from from
  pub goal : MeshPlace
  pub end : IsNearest mesh query.goal goal
  pub right : IsPlaceWay (joining query from goal) mesh answer

-- the one point has a nearest place, and no place is in reach of the other
pub record LacksGoal (query : NearWayQuery) (mesh : Mesh) : Type 0 where
  pub from : MeshPlace
  pub start : IsNearest mesh query.from from
  pub none : IsRightNear mesh query.goal NoneInReach

-- an answer is right in a mesh: that there is no start, or no goal, where no place is in reach of the one point, or of the other; else what is
-- right between the nearest places
abbrev pub IsNearWay : NearWayQuery → Mesh → PlaceWayAnswer → Type 0
IsNearWay query mesh (Way way corners) = IsJoining query mesh (Way way corners)
IsNearWay query mesh (Limit seen) = IsJoining query mesh (Limit seen)
IsNearWay query mesh NoStart = IsRightNear mesh query.from NoneInReach
IsNearWay query mesh NoGoal = LacksGoal query mesh
IsNearWay query mesh NoPath = IsJoining query mesh NoPath

-- right, and of low cost
abbrev pub IsRightNearWay : NearWayQuery → Mesh → PlaceWayAnswer → Type 0
IsRightNearWay query mesh answer = IsNearWay query mesh answer × IsWayLow answer

-- no limit may end a search: neither for cost nor for polygons, of which a mesh has at most 8000000
pub record IsNearUnlimited (query : NearWayQuery) : Type 0 where
  pub cost : 18446744073709551615 ≤ query.most_cost
  pub polygons : 8000000 < query.most_polygons
