-- Ways between two places over the border: which question is asked, and what is told of its answer.
use Rattle.std.specs.Prelude.{ℕ, List}
use Rattle.nav_handle.specs.declared.wire.NavdLink.{NavdLink}
use Rattle.place_handle.specs.declared.places.NavdPlace.{NavdPlace}
use Rattle.place_handle.specs.Places.{place_of}
use Rattle.place_way_handle.specs.declared.ways.NavdPlaceWay.{NavdPlaceWay}
use Rattle.place_way_handle.specs.Finding.{told_found}
use Rattle.place_ways.specs.declared.ways.PlaceWayAnswer.{PlaceWayAnswer}
use Rattle.place_ways.specs.declared.ways.PlaceWayQuery.{PlaceWayQuery}
use Rattle.way_handle.specs.Filtering.{filter_asked}

-- the question: from which place to which, through the filter of these areas and costs, within the limits
abbrev pub way_asked : NavdPlaceWay → List ℕ → PlaceWayQuery
way_asked way costs = record {
  from = place_of way.from;
  goal = place_of way.to;
  filter = filter_asked way.areas costs;
  most_cost = way.most_cost;
  most_polygons = way.most_polygons;
}

-- the host's places: for the question and what is found, and room for links and for corners
abbrev pub WayRoom : Type 0
WayRoom = NavdPlaceWay × List NavdLink × List NavdPlace

-- what is found is told beside the question, which stays as it is
abbrev pub told_way : PlaceWayAnswer → WayRoom → WayRoom
told_way answer room =
    let told = told_found answer (room.0.found, room.1, room.2) in
    (record room.0 { found = told.0 }, told.1, told.2)
