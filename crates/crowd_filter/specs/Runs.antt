-- Runs: many steps over one mesh.
use Rattle.std.specs.Prelude.{◌≡◌, ◌≢◌, ℕ, Bool, true, false, List, [], ◌∷◌, slice_get, Some}
use Rattle.nav_base.specs.declared.point.Point.{Point}
use Rattle.mesh_types.specs.declared.mesh.Mesh.{Mesh}
use Rattle.mesh_types.specs.Soundness.{IsSound}
use Rattle.crowd_moves.specs.declared.agents.CrowdAgent.{CrowdAgent}
use Rattle.crowd_moves.specs.Pairs.{is_apart}
use Rattle.crowd_filter.specs.CrowdAgents.{IsCrowdAgent}
use Rattle.crowd_filter.specs.CrowdSteps.{IsCrowdStep}
use Rattle.crowd_filter.specs.Placing.{IsPlacedAnew}

-- an agent that is held in a mesh is not placed elsewhere in it
abbrev pub DoHeldStay : Type 0
DoHeldStay = (mesh : Mesh) (a b : CrowdAgent) → IsSound mesh → IsCrowdAgent mesh a → a.stranded ≡ false → IsPlacedAnew mesh a b → b ≡ a

-- what is wished in a step: who goes before others, where the list of each begins, and the vectors
pub record StepWishes : Type 0 where
  pub order : List ℕ
  pub first : List ℕ
  pub vectors : List Point

-- steps over one mesh, one after the other
abbrev pub IsRun : Mesh → List CrowdAgent → List StepWishes → List CrowdAgent → Type 0
IsRun mesh before [] after = after ≡ before
IsRun mesh before (wishes ∷ rest) after =
    (mid : List CrowdAgent) × (settles : Bool) × IsCrowdStep mesh wishes.order wishes.first wishes.vectors before mid settles × IsRun mesh mid rest after

-- all agents are held, and any two are apart
pub record AreHeldApart (mesh : Mesh) (agents : List CrowdAgent) : Type 0 where
  pub held : (i : ℕ) (a : CrowdAgent) → slice_get agents i ≡ Some a → IsCrowdAgent mesh a
  pub walk : (i : ℕ) (a : CrowdAgent) → slice_get agents i ≡ Some a → a.stranded ≡ false
  pub apart : (i j : ℕ) (a b : CrowdAgent) → j ≢ i → slice_get agents i ≡ Some a → slice_get agents j ≡ Some b → is_apart mesh.setting.agent.height a b ≡ true

-- agents that are held and apart are so after any number of steps over one mesh, whatever is wished
abbrev pub DoRunsKeep : Type 0
DoRunsKeep = (mesh : Mesh) (before after : List CrowdAgent) (wishes : List StepWishes) → IsSound mesh → AreHeldApart mesh before → IsRun mesh before wishes after
    → AreHeldApart mesh after
