-- Where a kept path leads an agent, over the border: which question is asked, and what is told of its answer.
use Rattle.std.specs.Prelude.{ℕ, ◌≤◌, List, length}
use Rattle.nav_base.specs.Point.{HasCoordinates}
use Rattle.mesh_types.specs.declared.mesh.Mesh.{Mesh}
use Rattle.crowd_lead.specs.declared.leading.LeadAnswer.{LeadAnswer}
use Rattle.crowd_lead.specs.declared.leading.LeadAnswer.TheVariants.{Led, Cut}
use Rattle.crowd_lead.specs.Leading.{IsLead}
use Rattle.nav_handle.specs.declared.wire.NavdLink.{NavdLink}
use Rattle.nav_handle.specs.declared.wire.NavdPoint.{NavdPoint}
use Rattle.nav_handle.specs.Statuses as status
use Rattle.nav_handle.specs.Wire.{point_of}
use Rattle.way_handle.specs.Reading.{links_of}
use Rattle.crowd_handle.specs.Agents.{IsAgentToldRight, agent_of, fine_told}
use Rattle.crowd_handle.specs.declared.agents.NavdAgent.{NavdAgent}

-- it may be asked: the agent is within its limits, the goal has coordinates, and no more links are behind the agent than there are
pub record CanLead (a : NavdAgent) (goal : NavdPoint) (links : List NavdLink) (link : ℕ) : Type 0 where
  pub agent : IsAgentToldRight a
  pub leads_to : HasCoordinates (point_of goal)
  pub behind : link ≤ length links

-- the right answers in a mesh
abbrev pub IsLeadBy : NavdAgent → NavdPoint → List NavdLink → ℕ → Mesh → LeadAnswer → Type 0
IsLeadBy a goal links link mesh answer = IsLead mesh (agent_of a) (point_of goal) (links_of links) link answer

-- how it ends with an answer
abbrev pub lead_ends : LeadAnswer → ℕ
lead_ends (Led wish left link) = status.ok
lead_ends (Cut link) = status.cut

-- the host's places: the agent, and how many links are behind it
abbrev pub LeadRoom : Type 0
LeadRoom = NavdAgent × ℕ

-- the wish and how far the goal is are told as the agent's, with how many links are behind it; where the path leads it nowhere the agent stays as it is
abbrev pub told_lead : LeadAnswer → LeadRoom → LeadRoom
told_lead (Led wish left link) room = (record room.0 { wish = fine_told wish; left = left }, link)
told_lead (Cut link) room = (room.0, link)
