-- Kept paths over the border: which question is asked, and what is told of its answer.
use Rattle.std.specs.Prelude.{ℕ, List, length, map}
use Rattle.kept_paths.specs.declared.checks.CheckAnswer.{CheckAnswer}
use Rattle.kept_paths.specs.declared.checks.CheckAnswer.TheVariants.{Whole, Cut, NoStart}
use Rattle.kept_paths.specs.declared.checks.KeptPath.{KeptPath}
use Rattle.path_queries.specs.declared.filters.Filter.{Filter}
use Rattle.nav_handle.specs.declared.wire.NavdLink.{NavdLink}
use Rattle.nav_handle.specs.declared.wire.NavdTurn.{NavdTurn}
use Rattle.nav_handle.specs.Statuses as status
use Rattle.nav_handle.specs.Wire.{laid, link_told, point_of, polygon_told, turn_told}
use Rattle.way_handle.specs.declared.checks.NavdKept.{NavdKept}
use Rattle.way_handle.specs.Filtering.{filter_asked}
use Rattle.way_handle.specs.Reading.{links_of, polygon_of}

-- the path that is kept: where its walker is, its goal, the polygon in which it was last, and the links of the host's array
abbrev pub path_kept : NavdKept → Filter → List NavdLink → KeptPath
path_kept kept filter links = record {
  from = point_of kept.way.from;
  from_y = kept.way.from_y;
  goal = point_of kept.way.to;
  goal_y = kept.way.to_y;
  filter = filter;
  first = polygon_of kept.first;
  links = links_of links;
}

abbrev pub check_asked : NavdKept → List ℕ → List NavdLink → KeptPath
check_asked kept costs links = path_kept kept (filter_asked kept.areas costs) links

-- how the question ends with an answer
abbrev pub check_ends : CheckAnswer → ℕ
check_ends (Whole first cost links turns) = status.ok
check_ends (Cut first cost links) = status.cut
check_ends NoStart = status.no_start

-- the host's places: for the path, for its links, and room for its turns
abbrev pub CheckRoom : Type 0
CheckRoom = NavdKept × List NavdLink × List NavdTurn

-- the links that lead on are told over the first of the kept ones, and the turns where all of them do
abbrev pub told_check : CheckAnswer → CheckRoom → CheckRoom
told_check (Whole first cost links turns) room = (
  record room.0 { first = polygon_told first; cost = cost; links = length links; turns = length turns },
  laid (map link_told links) room.1,
  laid (map turn_told turns) room.2,
)
told_check (Cut first cost links) room = (
  record room.0 { first = polygon_told first; cost = cost; links = length links; turns = 0 },
  laid (map link_told links) room.1,
  room.2,
)
told_check NoStart room = room
