-- Where an agent that enters a crowd stands, over the border: which question is asked, and what is told of its answer.
use Rattle.std.specs.Prelude.{◌≡◌, ◌↔◌, ℕ, Bool, true, false, IsTrue, All, List, if◌then◌else◌}
use Rattle.mesh_types.specs.declared.mesh.Mesh.{Mesh}
use Rattle.crowd_moves.specs.declared.agents.CrowdAgent.{CrowdAgent}
use Rattle.crowd_moves.specs.Pairs.{is_apart}
use Rattle.crowd_filter.specs.Placing.{IsPlacedAnew}
use Rattle.nav_handle.specs.Statuses as status
use Rattle.crowd_handle.specs.Agents.{AreAgentsToldRight, IsAgentToldRight, agent_of, agents_of, placed_told}
use Rattle.crowd_handle.specs.declared.agents.NavdAgent.{NavdAgent}
use Rattle.crowd_handle.specs.declared.enters.EnterAnswer.{EnterAnswer}
use Rattle.crowd_handle.specs.declared.enters.EnterAnswer.TheVariants.{Enters, NoStart}
use Rattle.crowd_handle.specs.Statuses.{overlaps}

-- it may be asked: all are within their limits
pub record CanEnter (agents : List NavdAgent) (a : NavdAgent) : Type 0 where
  pub others : AreAgentsToldRight agents
  pub agent : IsAgentToldRight a

-- the agent that enters, with its height as its floors: it is in no polygon before
abbrev pub entering : NavdAgent → ℕ → CrowdAgent
entering a y = record (agent_of a) { polygon = record { tile = 4294967295; index = 4294967295 }; low = y; high = y; stranded = true }

-- it stands in the polygon of the nearest floors that holds its middle, no farther than a climb; and whether it is apart from all others there
pub record DoesEnter (agents : List NavdAgent) (a : NavdAgent) (y : ℕ) (mesh : Mesh) (placed : CrowdAgent) (has_room : Bool) : Type 0 where
  pub stands : IsPlacedAnew mesh (entering a y) placed
  pub held : placed.stranded ≡ false
  pub room : IsTrue has_room ↔ All (λ other. IsTrue (is_apart mesh.setting.agent.height placed other)) (agents_of agents)

-- no polygon holds it so
pub record HasNoStart (a : NavdAgent) (y : ℕ) (mesh : Mesh) : Type 0 where
  pub placed : CrowdAgent
  pub stranded : IsPlacedAnew mesh (entering a y) placed
  pub is : placed.stranded ≡ true

-- a right answer in a mesh
abbrev pub IsEnteredBy : List NavdAgent → NavdAgent → ℕ → Mesh → EnterAnswer → Type 0
IsEnteredBy agents a y mesh (Enters placed has_room) = DoesEnter agents a y mesh placed has_room
IsEnteredBy agents a y mesh NoStart = HasNoStart a y mesh

-- how it ends with an answer
abbrev pub enter_ends : EnterAnswer → ℕ
enter_ends (Enters placed has_room) = if has_room then status.ok else overlaps
enter_ends NoStart = status.no_start

-- where the agent stands is told in the host's place; where nothing holds it, nothing is told
abbrev pub told_enter : EnterAnswer → NavdAgent → NavdAgent
told_enter (Enters placed has_room) room = placed_told placed room
told_enter NoStart room = room
