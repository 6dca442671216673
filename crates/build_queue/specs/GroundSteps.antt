-- The ground changed under a book: other spans stand from then on, and the obstacles and the entries stay.
use Rattle.std.specs.Prelude.{◌≡◌, ℕ, ◌<◌, false, List, length, replicate, slice_get, All, Contains, None}
use Rattle.nav_ground.specs.declared.history.Ground.{Ground}
use Rattle.nav_ground.specs.Grounds.{IsGround}
use Rattle.nav_ground.specs.Tiling.{tile_count}
use Rattle.build_queue.specs.declared.live.Published.{Published}
use Rattle.build_queue.specs.declared.live.Published.TheVariants.{Same}
use Rattle.build_queue.specs.BookState.{BookState, IsBook, IsUnclaimed, least_awaited}

-- a book at rest: every tile is built for the target, and the target is published. Entries behind the target may wait for their aim
pub record IsAtRest (state : BookState) : Type 0 where
  pub built : least_awaited state ≡ None
  pub shown : state.target ≡ state.published

-- a ground that may take the place of another one: it has the same setting, so the same tiles
pub record IsGroundFor (before after : Ground) : Type 0 where
  pub rules : IsGround after
  pub setting : after.setting ≡ before.setting

-- such a ground whose layers have changed in some tiles at most
pub record IsGroundBut (tiles : List ℕ) (before after : Ground) : Type 0 where
  pub ground : IsGroundFor before after
  pub there : All (λ (tile : ℕ). tile < tile_count before.setting) tiles
  pub others : (tile : ℕ) → tile < tile_count before.setting → (Contains tiles tile → ⊥) → slice_get after.layers tile ≡ slice_get before.layers tile

-- the state over another ground: the history, the target, what is published and the stored lists are the same, and no tile is claimed, since a
-- claimed build would be one of the ground that was
abbrev pub after_ground : BookState → Ground → BookState
after_ground state ground = record state { ground = ground; claimed = replicate (length state.claimed) false }

-- the ground is another one from then on
pub record IsGroundStep (old new : BookState) (ground : Ground) : Type 0 where
  pub state : new ≡ after_ground old ground
  pub free : IsUnclaimed new
  pub rules : IsBook new

-- the state after a change of the ground was asked for: it comes only at rest, where a publish would have nothing to show
abbrev pub ground_changed : Published → BookState → Ground → BookState
ground_changed (Same k) state ground = after_ground state ground
ground_changed _ state ground = state
