-- Finding: what the steps of looking for those near add to a list.
use Rattle.std.specs.Prelude.{◌≡◌, ℕ, ◌+◌, ◌<◌, ◌≤◌, List, length, slice_get, Some}
use Rattle.crowd_moves.specs.declared.agents.CrowdAgent.{CrowdAgent}
use Rattle.crowd_moves.specs.declared.keyed.KeyedPlace.{KeyedPlace}
use Rattle.crowd_moves.specs.Pairs.{IsNear}

-- one agent is another than one, and could come to touch it in one step
pub record IsNearOther (agents : List CrowdAgent) (i j : ℕ) : Type 0 where
  pub there : j < length agents
  pub other : j ≡ i → ⊥
  pub near : (a b : CrowdAgent) → slice_get agents i ≡ Some a → slice_get agents j ≡ Some b → IsNear a b

-- a number was added to a list
pub record IsAdded (old new : List ℕ) (j : ℕ) : Type 0 where
  pub place : ℕ
  pub from : length old ≤ place
  pub is : slice_get new place ≡ Some j

-- what was there stays, and those that were added are near
pub record AddsNear (agents : List CrowdAgent) (i : ℕ) (old new : List ℕ) : Type 0 where
  pub longer : length old ≤ length new
  pub kept : (k : ℕ) → k < length old → slice_get new k ≡ slice_get old k
  pub right : (k j : ℕ) → length old ≤ k → slice_get new k ≡ Some j → IsNearOther agents i j

-- one is among them, if it is near
pub record AddsOne (agents : List CrowdAgent) (i j : ℕ) (old new : List ℕ) : Type 0 where
  pub adds : AddsNear agents i old new
  pub each : IsNearOther agents i j → IsAdded old new j

-- those near of some entries of the grid are among them
pub record AddsOfEntries (agents : List CrowdAgent) (entries : List KeyedPlace) (i begin end : ℕ) (old new : List ℕ) : Type 0 where
  pub adds : AddsNear agents i old new
  pub each : (k : ℕ) (e : KeyedPlace) → begin ≤ k → k < end → slice_get entries k ≡ Some e → IsNearOther agents i e.place → IsAdded old new e.place

-- those of three cells that follow each other are
pub record AddsOfCells (agents : List CrowdAgent) (entries : List KeyedPlace) (i low : ℕ) (old new : List ℕ) : Type 0 where
  pub adds : AddsNear agents i old new
  pub each : (k : ℕ) (e : KeyedPlace) → slice_get entries k ≡ Some e → low ≤ e.key → e.key < low + 3 → IsNearOther agents i e.place → IsAdded old new e.place

-- all are
pub record AddsAll (agents : List CrowdAgent) (i : ℕ) (old new : List ℕ) : Type 0 where
  pub adds : AddsNear agents i old new
  pub each : (j : ℕ) → IsNearOther agents i j → IsAdded old new j
