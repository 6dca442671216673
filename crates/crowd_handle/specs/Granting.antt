-- A step of a crowd with a host's own wishes over the border: what may be asked, and what is told of it.
use Rattle.std.specs.Prelude.{◌≡◌, ℕ, ◌+◌, Bool, List, length}
use Rattle.mesh_types.specs.declared.mesh.Mesh.{Mesh}
use Rattle.crowd_moves.specs.declared.agents.CrowdAgent.{CrowdAgent}
use Rattle.crowd_filter.specs.CrowdSteps.{IsCrowdStep}
use Rattle.nav_handle.specs.Statuses as status
use Rattle.crowd_handle.specs.Agents.{AreAgentsToldRight, AreCrowdRules, agents_of, all_placed_told, fine_points}
use Rattle.crowd_handle.specs.declared.agents.NavdAgent.{NavdAgent}
use Rattle.crowd_handle.specs.declared.agents.NavdCrowd.{NavdCrowd}
use Rattle.crowd_handle.specs.declared.agents.NavdFine.{NavdFine}

-- a step may be asked: all are within their limits, and it is said where the list of each agent begins and where the last one ends
pub record CanGrant (rules : NavdCrowd) (agents : List NavdAgent) (first : List ℕ) : Type 0 where
  pub limits : AreCrowdRules rules
  pub crowd : AreAgentsToldRight agents
  pub lists : length first ≡ length agents + 1

-- the agents as they may be after a step over a mesh in which moves are granted in an order, each of its agent's list
abbrev pub IsGrantedBy : List ℕ → List ℕ → List NavdFine → List NavdAgent → Mesh → List CrowdAgent → Type 0
IsGrantedBy order first moves agents mesh after =
    (settles : Bool) × IsCrowdStep mesh order first (fine_points moves) (agents_of agents) after settles

-- it ends well
abbrev pub grant_ends : List CrowdAgent → ℕ
grant_ends after = status.ok

-- where each agent is then, is told in its place
abbrev pub told_grant : List CrowdAgent → List NavdAgent → List NavdAgent
told_grant after room = all_placed_told after room
