-- Nearing: which question for the nearest of many goals is asked over the border, and what is told of its answer.
use Rattle.std.specs.Prelude.{ℕ, List, length, map}
use Rattle.path_queries.specs.declared.filters.Filter.{Filter}
use Rattle.path_queries.specs.declared.nearest.Goal.{Goal}
use Rattle.path_queries.specs.declared.nearest.NearestAnswer.{NearestAnswer}
use Rattle.path_queries.specs.declared.nearest.NearestAnswer.TheVariants.{Found, Limit, NoStart, NoGoal, NoPath}
use Rattle.path_queries.specs.declared.nearest.NearestQuery.{NearestQuery}
use Rattle.nav_handle.specs.declared.wire.NavdLink.{NavdLink}
use Rattle.nav_handle.specs.Statuses as status
use Rattle.nav_handle.specs.Wire.{laid, link_told, point_of, polygon_told}
use Rattle.way_handle.specs.declared.nearest.NavdGoal.{NavdGoal}
use Rattle.way_handle.specs.declared.nearest.NavdNearest.{NavdNearest}
use Rattle.way_handle.specs.Filtering.{filter_asked}

abbrev pub goal_of : NavdGoal → Goal
goal_of goal = record { point = point_of goal.at; y = goal.y }

abbrev pub goals_of : List NavdGoal → List Goal
goals_of goals = map goal_of goals

-- the question: from where, to the goals of the host's array, through a filter, and up to which cost
abbrev pub nearest_by : NavdNearest → Filter → List NavdGoal → NearestQuery
nearest_by nearest filter goals = record {
  from = point_of nearest.at;
  from_y = nearest.y;
  goals = goals_of goals;
  filter = filter;
  most_cost = nearest.most_cost;
}

abbrev pub nearest_asked : NavdNearest → List ℕ → List NavdGoal → NearestQuery
nearest_asked nearest costs goals = nearest_by nearest (filter_asked nearest.areas costs) goals

-- how it ends with an answer
abbrev pub nearest_ends : NearestAnswer → ℕ
nearest_ends (Found which last way) = status.ok
nearest_ends (Limit seen) = status.limit
nearest_ends NoStart = status.no_start
nearest_ends NoGoal = status.no_goal
nearest_ends NoPath = status.no_path

-- the host's places: for the goal and the way there, and room for its links
abbrev pub NearestRoom : Type 0
NearestRoom = NavdNearest × List NavdLink

-- a goal is told with the way there, its links as far as there is room; where the limit ended the search, how far was seen; of another answer nothing
-- is told
abbrev pub told_nearest : NearestAnswer → NearestRoom → NearestRoom
told_nearest (Found which last way) room = (
  record room.0 {
    which = which;
    cost = way.cost;
    first = polygon_told way.first;
    last = polygon_told last;
    links = length way.links;
  },
  laid (map link_told way.links) room.1,
)
told_nearest (Limit seen) room = (record room.0 { seen = seen }, room.1)
told_nearest NoStart room = room
told_nearest NoGoal room = room
told_nearest NoPath room = room
