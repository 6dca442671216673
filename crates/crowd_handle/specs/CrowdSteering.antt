-- CrowdSteering: the steering of agents over the border, and the rules of a crowd.
use Rattle.std.specs.Prelude.{ℕ, List, map, nat_eq, not}
use Rattle.crowd_step.specs.declared.steering.Steering.{Steering}
use Rattle.crowd_handle.specs.Agents.{all_told, fine_point, fine_told}
use Rattle.crowd_handle.specs.declared.agents.NavdAgent.{NavdAgent}

-- the steering of an agent that a host hands over, and of a list of them
abbrev pub own_steering : NavdAgent → Steering
own_steering a = record {
  wish = fine_point a.wish;
  left = a.left;
  idle = not (nat_eq a.idle 0);
  last = fine_point a.last;
  meant = fine_point a.meant;
  waited = a.waited;
  tired = a.tired;
}

abbrev pub steering_of : List NavdAgent → List Steering
steering_of agents = map own_steering agents

-- the full radii
abbrev pub full_radii : List NavdAgent → List ℕ
full_radii agents = map (λ (a : NavdAgent). a.full) agents

-- what an agent is to remember is told in the host's place; all else there stays as it is, what it wishes too
abbrev pub steering_told : Steering → NavdAgent → NavdAgent
steering_told own a = record a { last = fine_told own.last; meant = fine_told own.meant; waited = own.waited; tired = own.tired }

abbrev pub all_steering_told : List Steering → List NavdAgent → List NavdAgent
all_steering_told steering room = all_told steering_told steering room
