-- Steered: one step of a crowd that steers itself.
use Rattle.std.specs.Prelude.{◌≡◌, ◌≢◌, ℕ, ◌+◌, max, Bool, List, slice_get, Some}
use Rattle.nav_base.specs.declared.point.Point.{Point}
use Rattle.nav_base.specs.Point.{IsWithin, from_to}
use Rattle.mesh_types.specs.declared.mesh.Mesh.{Mesh}
use Rattle.mesh_types.specs.Soundness.{IsSound}
use Rattle.crowd_moves.specs.declared.agents.CrowdAgent.{CrowdAgent}
use Rattle.crowd_moves.specs.declared.agents.CrowdMove.{CrowdMove}
use Rattle.crowd_moves.specs.Wishes.{MayGo}
use Rattle.crowd_filter.specs.CrowdAgents.{IsCrowdAgent, MayWalk}
use Rattle.crowd_filter.specs.CrowdSteps.{IsCrowdStep}
use Rattle.crowd_step.specs.declared.steering.Steering.{Steering}

-- another agent is in sight of one: neither coordinate of the way between them is more than the sight, or than both radii and both speeds together
abbrev pub IsInSight : ℕ → CrowdAgent → CrowdAgent → Type 0
IsInSight sight a b = IsWithin (max sight (a.radius + b.radius + a.speed + b.speed)) (from_to a.at b.at)

-- an agent sees nobody
abbrev pub SeesNobody : ℕ → List CrowdAgent → ℕ → Type 0
SeesNobody sight agents i = (j : ℕ) (a b : CrowdAgent) → j ≢ i → slice_get agents i ≡ Some a → slice_get agents j ≡ Some b → IsInSight sight a b → ⊥

-- an agent that sees nobody goes as it wishes, if the mesh lets it and the wish is no longer than its speed
abbrev pub DoLoneGoWhole : Mesh → ℕ → List Steering → List CrowdAgent → List CrowdAgent → List CrowdMove → Type 0
DoLoneGoWhole mesh sight steering before placed moves =
    (i : ℕ) (own : Steering) (a : CrowdAgent) (m : CrowdMove) → slice_get steering i ≡ Some own → slice_get placed i ≡ Some a → slice_get moves i ≡ Some m
    → SeesNobody sight before i → MayGo (MayWalk mesh) a own.wish → m.by ≡ own.wish

-- one step of a crowd that steers itself: it is a step of a crowd by some wishes, and who sees nobody goes as it wishes
pub record IsSteeredStep (mesh : Mesh) (sight : ℕ) (steering : List Steering) (before after : List CrowdAgent) : Type 0 where
  pub order : List ℕ
  pub first : List ℕ
  pub vectors : List Point
  pub settles : Bool
  pub step : IsCrowdStep mesh order first vectors before after settles
  pub whole : DoLoneGoWhole mesh sight steering before step.placed step.moves

-- ---- parts of it

-- an agent in its polygon of a sound mesh
pub record IsFooting (mesh : Mesh) (agent : CrowdAgent) : Type 0 where
  pub sound : IsSound mesh
  pub held : IsCrowdAgent mesh agent

-- an agent at another place of a list is in sight of one
pub record IsOtherInSight (sight : ℕ) (agents : List CrowdAgent) (i j : ℕ) : Type 0 where
  pub others : j ≢ i
  pub agent : CrowdAgent
  pub other : CrowdAgent
  pub is_agent : slice_get agents i ≡ Some agent
  pub is_other : slice_get agents j ≡ Some other
  pub near : IsInSight sight agent other
