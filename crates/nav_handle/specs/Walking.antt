-- Walkers over the border: which questions about them are asked, and what is told of the answers.
use Rattle.std.specs.Prelude.{ℕ, List, length, map}
use Rattle.mesh_types.specs.declared.answers.WalkAnswer.{WalkAnswer}
use Rattle.mesh_types.specs.declared.answers.WalkAnswer.TheVariants.{Walking, NoStart, NoGoal, NoPath}
use Rattle.agent_walks.specs.declared.eyes.Marching.{Marching}
use Rattle.agent_walks.specs.declared.eyes.Sending.{Sending}
use Rattle.nav_handle.specs.Statuses as status
use Rattle.nav_handle.specs.declared.walkers.NavdWalker.{NavdWalker}
use Rattle.nav_handle.specs.declared.wire.NavdLink.{NavdLink}
use Rattle.nav_handle.specs.declared.wire.NavdPoint.{NavdPoint}
use Rattle.nav_handle.specs.declared.wire.NavdWay.{NavdWay}
use Rattle.nav_handle.specs.Wire.{laid, link_told, point_of, point_told, polygon_told}

-- a walker is sent along a way; a walker marches from where it stands toward its goal, for a length
abbrev pub send_asked : NavdWay → Sending
send_asked way = record {
  from = record { point = point_of way.from; y = way.from_y };
  goal = record { point = point_of way.to; y = way.to_y };
}

abbrev pub march_asked : NavdWalker → ℕ → Marching
march_asked walker far = record {
  from = record { point = point_of walker.at; y = walker.y };
  goal = record { point = point_of walker.goal; y = walker.goal_y };
  length = far;
}

-- how each of the two ends with an answer
abbrev pub walk_ends : WalkAnswer → ℕ
walk_ends (Walking at point y cost links) = status.ok
walk_ends NoStart = status.no_start
walk_ends NoGoal = status.no_goal
walk_ends NoPath = status.no_path

-- the host's places: for the walker, and room for the links that lead on
abbrev pub WalkRoom : Type 0
WalkRoom = NavdWalker × List NavdLink

-- a walker is told where it stands, on its way to a goal; where it has no way nothing is told
abbrev pub told_walk : NavdPoint → ℕ → WalkAnswer → WalkRoom → WalkRoom
told_walk goal goal_y (Walking at point y cost links) room = (
  record {
    polygon = polygon_told at;
    at = point_told point;
    y = y;
    goal = goal;
    goal_y = goal_y;
    cost = cost;
    links = length links;
  },
  laid (map link_told links) room.1,
)
told_walk goal goal_y NoStart room = room
told_walk goal goal_y NoGoal room = room
told_walk goal goal_y NoPath room = room

abbrev pub told_send : NavdWay → WalkAnswer → WalkRoom → WalkRoom
told_send way answer room = told_walk way.to way.to_y answer room

abbrev pub told_march : WalkAnswer → WalkRoom → WalkRoom
told_march answer room = told_walk room.0.goal room.0.goal_y answer room
