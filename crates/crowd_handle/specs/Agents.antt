-- Agents of a crowd over the border: what a host may hand over, and what it is told.
use Rattle.std.specs.Prelude.{◌<◌, ◌≤◌, ◌^◌, All, List, [], ◌∷◌, length, map, nat_eq, not, if◌then◌else◌}
use Rattle.nav_base.specs.declared.point.Point.{Point}
use Rattle.nav_base.specs.Point.{IsWithin}
use Rattle.crowd_moves.specs.declared.agents.CrowdAgent.{CrowdAgent}
use Rattle.nav_handle.specs.Wire.{polygon_told}
use Rattle.crowd_handle.specs.declared.agents.NavdAgent.{NavdAgent}
use Rattle.crowd_handle.specs.declared.agents.NavdCrowd.{NavdCrowd}
use Rattle.crowd_handle.specs.declared.agents.NavdFine.{NavdFine}

-- fine points, there and back; lists of them
abbrev pub fine_point : NavdFine → Point
fine_point p = record { x = p.x; z = p.z }

abbrev pub fine_told : Point → NavdFine
fine_told p = record { x = p.x; z = p.z }

abbrev pub fine_points : List NavdFine → List Point
fine_points points = map fine_point points

-- an agent that a host hands over, and a list of them
abbrev pub agent_of : NavdAgent → CrowdAgent
agent_of a = record {
  polygon = record { tile = a.polygon.tile; index = a.polygon.index };
  at = fine_point a.at;
  low = a.low;
  high = a.high;
  stranded = not (nat_eq a.stranded 0);
  areas = a.areas;
  radius = a.radius;
  speed = a.speed;
}

abbrev pub agents_of : List NavdAgent → List CrowdAgent
agents_of agents = map agent_of agents

-- the limits of an agent: its middle is a fine point, the radius is at least 1 and at most the full one, and that and the speed are less than 32 cells
pub record IsAgentToldRight (a : NavdAgent) : Type 0 where
  pub at : IsWithin (2 ^ 20) (fine_point a.at)
  pub some : 0 < a.radius
  pub radius : a.radius ≤ a.full
  pub full : a.full ≤ 8191
  pub speed : a.speed ≤ 8191

-- the limits of a crowd: how far its agents see, in 1/256 of a cell, how many steps a second it makes, and in how many rounds moves are granted
pub record AreCrowdRules (rules : NavdCrowd) : Type 0 where
  pub sight : rules.sight ≤ 16384
  pub steps : 0 < rules.hz
  pub most_steps : rules.hz ≤ 1000
  pub rounds : 0 < rules.rounds
  pub most_rounds : rules.rounds ≤ 64

-- those of all agents of a crowd: there are at most 65535
pub record AreAgentsToldRight (agents : List NavdAgent) : Type 0 where
  pub each : All IsAgentToldRight agents
  pub few : length agents ≤ 65535

-- where an agent is, is told in the host's place; all else there stays as it is
abbrev pub placed_told : CrowdAgent → NavdAgent → NavdAgent
placed_told b a = record a {
  polygon = polygon_told b.polygon;
  at = fine_told b.at;
  low = b.low;
  high = b.high;
  stranded = if b.stranded then 1 else 0;
}

-- what is told of each of a list, in the host's places one after the other, as far as both go
abbrev pub all_told : {X : Type 0} → (X → NavdAgent → NavdAgent) → List X → List NavdAgent → List NavdAgent
all_told told [] room = room
all_told told (x ∷ xs) [] = []
all_told told (x ∷ xs) (a ∷ room) = told x a ∷ all_told told xs room

abbrev pub all_placed_told : List CrowdAgent → List NavdAgent → List NavdAgent
all_placed_told agents room = all_told placed_told agents room
