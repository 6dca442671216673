-- A step of a crowd that steers itself over the border: what may be asked, and what is told of it.
use Rattle.std.specs.Prelude.{ℕ, List}
use Rattle.mesh_types.specs.declared.mesh.Mesh.{Mesh}
use Rattle.crowd_step.specs.Kept.{AreWishesKept}
use Rattle.crowd_step.specs.Steered.{IsSteeredStep}
use Rattle.nav_handle.specs.Statuses as status
use Rattle.crowd_handle.specs.Agents.{AreAgentsToldRight, AreCrowdRules, agents_of, all_placed_told}
use Rattle.crowd_handle.specs.CrowdSteering.{all_steering_told, steering_of}
use Rattle.crowd_handle.specs.declared.agents.NavdAgent.{NavdAgent}
use Rattle.crowd_handle.specs.declared.agents.NavdCrowd.{NavdCrowd}
use Rattle.crowd_handle.specs.declared.stepping.CrowdAfter.{CrowdAfter}

-- it may be asked: all are within their limits
pub record CanStep (rules : NavdCrowd) (agents : List NavdAgent) : Type 0 where
  pub limits : AreCrowdRules rules
  pub crowd : AreAgentsToldRight agents

-- agents as they may be after a step over a mesh, and what they are to remember
pub record IsSteppedBy (rules : NavdCrowd) (agents : List NavdAgent) (mesh : Mesh) (after : CrowdAfter) : Type 0 where
  pub step : IsSteeredStep mesh rules.sight (steering_of agents) (agents_of agents) after.agents
  pub kept : AreWishesKept (steering_of agents) after.steering

-- it ends well
abbrev pub step_ends : CrowdAfter → ℕ
step_ends after = status.ok

-- where each agent is then, and what it is to remember, are told in its place
abbrev pub told_step : CrowdAfter → List NavdAgent → List NavdAgent
told_step after room = all_steering_told after.steering (all_placed_told after.agents room)
