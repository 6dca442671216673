-- The sizes of agents that wait over the border: what may be asked is what may be asked of a step, and what is told of it.
use Rattle.std.specs.Prelude.{ℕ, List}
use Rattle.mesh_types.specs.declared.mesh.Mesh.{Mesh}
use Rattle.crowd_moves.specs.declared.agents.CrowdAgent.{CrowdAgent}
use Rattle.crowd_step.specs.Slim.{AreAllApart, AreSlimmed}
use Rattle.nav_handle.specs.Statuses as status
use Rattle.crowd_handle.specs.Agents.{agents_of, all_told}
use Rattle.crowd_handle.specs.CrowdSteering.{full_radii, steering_of}
use Rattle.crowd_handle.specs.declared.agents.NavdAgent.{NavdAgent}
use Rattle.crowd_handle.specs.declared.agents.NavdCrowd.{NavdCrowd}

-- the agents with their radii anew: where no two of them overlapped, none do then
pub record AreSlimmedBy (rules : NavdCrowd) (agents : List NavdAgent) (mesh : Mesh) (after : List CrowdAgent) : Type 0 where
  pub slimmed : AreSlimmed mesh.setting.agent.height rules.hz (full_radii agents) (steering_of agents) (agents_of agents) after
  pub apart : AreAllApart mesh.setting.agent.height (agents_of agents) → AreAllApart mesh.setting.agent.height after

-- it ends well
abbrev pub slim_ends : List CrowdAgent → ℕ
slim_ends after = status.ok

-- the radius of each agent is told in its place; all else there stays as it is
abbrev pub radius_told : CrowdAgent → NavdAgent → NavdAgent
radius_told b a = record a { radius = b.radius }

abbrev pub told_slim : List CrowdAgent → List NavdAgent → List NavdAgent
told_slim after room = all_told radius_told after room
