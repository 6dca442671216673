-- What is told of an answer to a question for a way between places.
use Rattle.std.specs.Prelude.{ℕ, List, length, map}
use Rattle.nav_handle.specs.declared.wire.NavdLink.{NavdLink}
use Rattle.nav_handle.specs.Statuses as status
use Rattle.nav_handle.specs.Wire.{laid, link_told}
use Rattle.place_handle.specs.declared.places.NavdPlace.{NavdPlace}
use Rattle.place_handle.specs.Places.{place_told}
use Rattle.place_way_handle.specs.declared.found.NavdFoundWay.{NavdFoundWay}
use Rattle.place_ways.specs.declared.ways.PlaceWayAnswer.{PlaceWayAnswer}
use Rattle.place_ways.specs.declared.ways.PlaceWayAnswer.TheVariants.{Way, Limit, NoStart, NoGoal, NoPath}

-- how the question ends with an answer
abbrev pub found_ends : PlaceWayAnswer → ℕ
found_ends (Way way corners) = status.ok
found_ends (Limit seen) = status.limit
found_ends NoStart = status.no_start
found_ends NoGoal = status.no_goal
found_ends NoPath = status.no_path

-- the host's places for what is found: one for its cost and counts, and room for its links and for its corners
abbrev pub FoundRoom : Type 0
FoundRoom = NavdFoundWay × List NavdLink × List NavdPlace

-- a way is told with its links and corners as far as there is room; where a limit ended the search, how far was seen; of another answer nothing is
-- told
abbrev pub told_found : PlaceWayAnswer → FoundRoom → FoundRoom
told_found (Way way corners) room = (
  record room.0 { cost = way.cost; links = length way.links; corners = length corners },
  laid (map link_told way.links) room.1,
  laid (map place_told corners) room.2,
)
told_found (Limit seen) room = (record room.0 { seen = seen }, room.1, room.2)
told_found NoStart room = room
told_found NoGoal room = room
told_found NoPath room = room
