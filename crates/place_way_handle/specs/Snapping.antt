-- Ways between the places nearest to two points over the border: which question is asked, and what is told of its answer.
use Rattle.std.specs.Prelude.{ℕ, List}
use Rattle.nav_handle.specs.declared.wire.NavdLink.{NavdLink}
use Rattle.near_ways.specs.declared.snapped.NearWayQuery.{NearWayQuery}
use Rattle.place_handle.specs.declared.places.NavdPlace.{NavdPlace}
use Rattle.place_handle.specs.Nearing.{near_asked}
use Rattle.place_way_handle.specs.declared.snapped.NavdNearWay.{NavdNearWay}
use Rattle.place_way_handle.specs.Finding.{told_found}
use Rattle.place_ways.specs.declared.ways.PlaceWayAnswer.{PlaceWayAnswer}
use Rattle.way_handle.specs.Filtering.{filter_asked}

-- the question: near which point the way begins and near which it ends, through the filter of these areas and costs, within the limits
abbrev pub near_way_asked : NavdNearWay → List ℕ → NearWayQuery
near_way_asked way costs = record {
  from = near_asked way.from;
  goal = near_asked way.to;
  filter = filter_asked way.areas costs;
  most_cost = way.most_cost;
  most_polygons = way.most_polygons;
}

-- the host's places: for the question and what is found, and room for links and for corners
abbrev pub NearWayRoom : Type 0
NearWayRoom = NavdNearWay × List NavdLink × List NavdPlace

-- what is found is told beside the question, which stays as it is
abbrev pub told_near_way : PlaceWayAnswer → NearWayRoom → NearWayRoom
told_near_way answer room =
    let told = told_found answer (room.0.found, room.1, room.2) in
    (record room.0 { found = told.0 }, told.1, told.2)
