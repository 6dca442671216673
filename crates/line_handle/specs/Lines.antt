-- Lines between two places over the border: which question is asked, and what is told of its answer.
use Rattle.std.specs.Prelude.{ℕ, List, length, map, not, nat_eq}
use Rattle.mesh_types.specs.declared.mesh.Mesh.{Mesh}
use Rattle.nav_handle.specs.declared.wire.NavdLink.{NavdLink}
use Rattle.nav_handle.specs.declared.wire.NavdTurn.{NavdTurn}
use Rattle.nav_handle.specs.Statuses as status
use Rattle.nav_handle.specs.Wire.{laid, link_told, point_of, polygon_told, turn_told}
use Rattle.line_handle.specs.declared.lines.NavdLine.{NavdLine}
use Rattle.line_handle.specs.Statuses.{about}
use Rattle.shortest_line.specs.declared.query.LineFound.{LineFound}
use Rattle.shortest_line.specs.declared.query.LineQuery.{LineQuery}
use Rattle.shortest_line.specs.declared.query.ShortestAnswer.{ShortestAnswer}
use Rattle.shortest_line.specs.declared.query.ShortestAnswer.TheVariants.{Shortest, Line, NoStart, NoGoal, NoPath}
use Rattle.shortest_line.specs.Lines.{IsRightLine}

-- the question: from where to where, and how long it is looked for
abbrev pub line_asked : NavdLine → LineQuery
line_asked line = record {
  from = point_of line.way.from;
  from_y = line.way.from_y;
  goal = point_of line.way.to;
  goal_y = line.way.to_y;
  most = line.most;
  quick = not (nat_eq line.quick 0);
}

-- its right answers in a mesh
abbrev pub IsLineBy : LineQuery → Mesh → ShortestAnswer → Type 0
IsLineBy asked mesh answer = IsRightLine mesh asked answer

-- how it ends with an answer
abbrev pub line_ends : ShortestAnswer → ℕ
line_ends (Shortest found) = status.ok
line_ends (Line found) = about
line_ends NoStart = status.no_start
line_ends NoGoal = status.no_goal
line_ends NoPath = status.no_path

-- the host's places: for the question and what is found, and room for links and for turns
abbrev pub LineRoom : Type 0
LineRoom = NavdLine × List NavdLink × List NavdTurn

-- a line is told beside the question, which stays as it is, with its links and turns as far as there is room
abbrev pub line_found : LineFound → LineRoom → LineRoom
line_found found room = (
  record room.0 {
    upper = found.upper;
    lower = found.lower;
    first = polygon_told found.first;
    last = polygon_told found.last;
    links = length found.links;
    turns = length found.turns;
  },
  laid (map link_told found.links) room.1,
  laid (map turn_told found.turns) room.2,
)

-- where there is no line, nothing is told
abbrev pub told_line : ShortestAnswer → LineRoom → LineRoom
told_line (Shortest found) room = line_found found room
told_line (Line found) room = line_found found room
told_line NoStart room = room
told_line NoGoal room = room
told_line NoPath room = room
