-- Walks over links and jumps, over the border: which questions are asked, and what is told of the answers.
use Rattle.std.specs.Prelude.{ℕ, List, length, map, pos}
use Rattle.mesh_types.specs.declared.answers.HopAnswer.{HopAnswer}
use Rattle.mesh_types.specs.declared.answers.HopAnswer.TheVariants.{Found, NoStart, NoGoal, NoPath}
use Rattle.mesh_types.specs.declared.answers.HopStep.{HopStep}
use Rattle.mesh_types.specs.declared.answers.HopStep.TheVariants as hops
use Rattle.mesh_types.specs.declared.answers.Jump.{Jump}
use Rattle.off_links.specs.declared.hops.HopQuestion.{HopQuestion}
use Rattle.nav_handle.specs.declared.hops.NavdHop.{NavdHop}
use Rattle.nav_handle.specs.declared.hops.NavdJump.{NavdJump}
use Rattle.nav_handle.specs.declared.hops.NavdStep.{NavdStep}
use Rattle.nav_handle.specs.Statuses as status
use Rattle.nav_handle.specs.declared.wire.NavdTurn.{NavdTurn}
use Rattle.nav_handle.specs.declared.wire.NavdWay.{NavdWay}
use Rattle.nav_handle.specs.Wire.{laid, link_told, point_of, polygon_told, turn_told}

-- jumps, in their order, and the question for a walk
abbrev pub jump_of : NavdJump → Jump
jump_of jump = record { from = point_of jump.from; from_y = jump.from_y; to = point_of jump.to; to_y = jump.to_y; cost = jump.cost }

abbrev pub jumps_of : List NavdJump → List Jump
jumps_of jumps = map jump_of jumps

abbrev pub hop_asked : NavdWay → List NavdJump → HopQuestion
hop_asked way jumps = record {
  from = point_of way.from;
  from_y = way.from_y;
  to = point_of way.to;
  to_y = way.to_y;
  jumps = jumps_of jumps;
}

-- how the question ends with an answer
abbrev pub hop_ends : HopAnswer → ℕ
hop_ends (Found found) = status.ok
hop_ends NoStart = status.no_start
hop_ends NoGoal = status.no_goal
hop_ends NoPath = status.no_path

-- what is told of a step: of a link all, of a jump its place among the jumps and the polygon that it enters
abbrev pub step_told : HopStep → NavdStep
step_told (hops.Link link) = record { kind = 0; jump = 0; link = link_told link }
step_told (hops.Jump number to) = record {
  kind = 1;
  jump = number;
  link = record {
    from = record { tile = 0; index = 0 };
    edge = 0;
    to = polygon_told to;
    left = record { x = pos 0; z = pos 0 };
    right = record { x = pos 0; z = pos 0 };
  };
}

-- the host's places: for the walk, and room for its steps and for its turns
abbrev pub HopRoom : Type 0
HopRoom = NavdHop × List NavdStep × List NavdTurn

-- a walk is told with its steps and turns as far as there is room; of another answer nothing is told
abbrev pub told_hop : HopAnswer → HopRoom → HopRoom
told_hop (Found found) room = (
  record room.0 {
    cost = found.cost;
    first = polygon_told found.first;
    steps = length found.steps;
    turns = length found.turns;
  },
  laid (map step_told found.steps) room.1,
  laid (map turn_told found.turns) room.2,
)
told_hop NoStart room = room
told_hop NoGoal room = room
told_hop NoPath room = room
