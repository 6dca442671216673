-- Floods over the border: which question is asked, and what is told of its answer.
use Rattle.std.specs.Prelude.{ℕ, ◌≤◌, ◌==◌, List, length, map}
use Rattle.std.specs.Bool.{MatchBool}
use Rattle.mesh_types.specs.declared.mesh.Mesh.{Mesh}
use Rattle.path_queries.specs.declared.floods.FloodAnswer.{FloodAnswer}
use Rattle.path_queries.specs.declared.floods.FloodAnswer.TheVariants as floods
use Rattle.path_queries.specs.declared.floods.Flooded.{Flooded}
use Rattle.path_queries.specs.declared.floods.FloodQuery.{FloodQuery}
use Rattle.path_queries.specs.Floods.{CanFlood, IsRightFlood}
use Rattle.path_queries.specs.FloodsBack.{IsRightFloodBack}
use Rattle.nav_handle.specs.Statuses as status
use Rattle.nav_handle.specs.Wire.{laid, point_of, polygon_told}
use Rattle.way_handle.specs.declared.floods.NavdFlood.{NavdFlood}
use Rattle.way_handle.specs.declared.floods.NavdReached.{NavdReached}
use Rattle.way_handle.specs.Filtering.{filter_asked}

-- the question: from where or to where, through the filter of these areas and costs, and up to which cost
abbrev pub flood_asked : NavdFlood → List ℕ → FloodQuery
flood_asked flood costs = record {
  at = point_of flood.at;
  y = flood.y;
  filter = filter_asked flood.areas costs;
  most_cost = flood.most_cost;
}

-- it may be asked: it is a question for a flood, and `back` is 0 or 1
pub record CanAskFlood (flood : NavdFlood) (costs : List ℕ) : Type 0 where
  pub query : CanFlood (flood_asked flood costs)
  pub round : flood.back ≤ 1

-- an answer is right: with `back` 1 it is that to the question for a flood back to the place, else that for a flood from there
abbrev pub IsRightRound : ℕ → FloodQuery → Mesh → FloodAnswer → Type 0
IsRightRound back query mesh answer = MatchBool (back == 1) (IsRightFloodBack query mesh answer) (IsRightFlood query mesh answer)

-- how it ends with an answer
abbrev pub flood_ends : FloodAnswer → ℕ
flood_ends (floods.Flooded list) = status.ok
flood_ends floods.NoStart = status.no_start

-- what is told of a polygon of a flood
abbrev pub reached_told : Flooded → NavdReached
reached_told entry = record { polygon = polygon_told entry.at; cost = entry.cost; via = entry.via }

-- the host's places: for the count, and room for the polygons
abbrev pub FloodRoom : Type 0
FloodRoom = NavdFlood × List NavdReached

-- the polygons are told as far as there is room, with how many they are; of another answer nothing is told
abbrev pub told_flood : FloodAnswer → FloodRoom → FloodRoom
told_flood (floods.Flooded list) room = (record room.0 { polygons = length list }, laid (map reached_told list) room.1)
told_flood floods.NoStart room = room
