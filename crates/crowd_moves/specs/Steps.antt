-- Steps: the moves of all agents in one step. `lets` is what a space lets agents do: `lets` of `MoveSpace`.
use Rattle.std.specs.Prelude.{◌≡◌, ◌≢◌, ℕ, List, length, slice_get, Some}
use Rattle.crowd_moves.specs.declared.agents.CrowdAgent.{CrowdAgent}
use Rattle.crowd_moves.specs.declared.agents.CrowdMove.{CrowdMove}
use Rattle.crowd_moves.specs.Pairs.{IsClear, IsMover, IsNear}

-- an agent may make a move: it has sizes, the move is no longer than its speed, and the space lets it
pub record MayMove (lets : CrowdAgent → CrowdMove → Type 0) (a : CrowdAgent) (m : CrowdMove) : Type 0 where
  pub mover : IsMover a m
  pub way : lets a m

-- the same of the agent at a place of a list
abbrev pub MayMoveAt : (CrowdAgent → CrowdMove → Type 0) → List CrowdAgent → ℕ → CrowdMove → Type 0
MayMoveAt lets agents i m = (a : CrowdAgent) → slice_get agents i ≡ Some a → MayMove lets a m

-- the moves of agents, one each, are no longer than their speeds; a move of one is not
pub record AreMovers (agents : List CrowdAgent) (moves : List CrowdMove) : Type 0 where
  pub one_each : length moves ≡ length agents
  pub each : (i : ℕ) (a : CrowdAgent) (m : CrowdMove) → slice_get agents i ≡ Some a → slice_get moves i ≡ Some m → IsMover a m

abbrev pub IsMoverAt : List CrowdAgent → ℕ → CrowdMove → Type 0
IsMoverAt agents i m = (a : CrowdAgent) → slice_get agents i ≡ Some a → IsMover a m

-- a move of an agent is clear of the moves of all others
abbrev pub IsFree : ℕ → List CrowdAgent → List CrowdMove → ℕ → CrowdMove → Type 0
IsFree height agents moves i m =
    (j : ℕ) (a b : CrowdAgent) (n : CrowdMove) → j ≢ i → slice_get agents i ≡ Some a → slice_get agents j ≡ Some b → slice_get moves j ≡ Some n
    → IsClear height a b m n

-- the moves of a step: one an agent, each one that it may make, and any two clear of each other
pub record AreMoves (lets : CrowdAgent → CrowdMove → Type 0) (height : ℕ) (agents : List CrowdAgent) (moves : List CrowdMove) : Type 0 where
  pub one_each : length moves ≡ length agents
  pub may : (i : ℕ) (m : CrowdMove) → slice_get moves i ≡ Some m → MayMoveAt lets agents i m
  pub clear : (i : ℕ) (m : CrowdMove) → slice_get moves i ≡ Some m → IsFree height agents moves i m

-- the move of one agent is clear of that of another
pub record IsClearBeside (height : ℕ) (agents : List CrowdAgent) (moves : List CrowdMove) (i : ℕ) (m : CrowdMove) (j : ℕ) : Type 0 where
  pub clear : (a b : CrowdAgent) (n : CrowdMove) → j ≢ i → slice_get agents i ≡ Some a → slice_get agents j ≡ Some b → slice_get moves j ≡ Some n
      → IsClear height a b m n

-- an agent has nobody near that it could come to touch in one step
abbrev pub IsAlone : List CrowdAgent → ℕ → Type 0
IsAlone agents i = (j : ℕ) (a b : CrowdAgent) → j ≢ i → slice_get agents i ≡ Some a → slice_get agents j ≡ Some b → IsNear a b → ⊥
