-- What the calls of a level and of a book promise that build or publish meshes, one record a call. `old` and `new` are the states before and
-- after the call. The steps of the queue of builds stand in `StepContracts` of build_queue.
use Rattle.std.specs.Prelude.{◌≡◌, ℕ, ◌+◌, None, length, Result, IfOk, OnOk, OnErr}
use Rattle.nav_base.specs.Counts.{HasRisenAtMost}
use Rattle.build_queue.specs.declared.live.Published.{Published}
use Rattle.build_queue.specs.BookState.{BookState, IsBook, IsUnclaimed, least_awaited}
use Rattle.build_queue.specs.Steps.{publication, after_publish}
use Rattle.nav_book.specs.LevelResults.{IsNew}
use Rattle.nav_book.specs.Settling.{after_settle, all_built, awaited_tiles, settling}

-- `publish`: the target is published where no tile is awaited
pub record IsPublishStep {E : Type 0} (old new : BookState) (result : Result Published E) : Type 0 where
  pub answer : IfOk result (λ answer. answer ≡ publication old)
  pub published : OnOk result (new ≡ after_publish old)
  -- memory is refused only where something new would be published, and then nothing changes
  pub refused : OnErr result (new ≡ old)
  pub wanted : OnErr result (IsNew (publication old))

-- every tile that is awaited is built, with one step of the count each; to publish them is all that is left
pub record IsBuildAllStep {A E : Type 0} (old new : BookState) (before after : ℕ) (result : Result A E) : Type 0 where
  pub built : OnOk result (new ≡ all_built old)
  pub none : OnOk result (least_awaited new ≡ None)
  -- the count of steps, also where memory is refused
  pub steps : OnOk result (after ≡ before + length (awaited_tiles old))
  pub most : HasRisenAtMost (length (awaited_tiles old)) before after
  -- and what holds in both cases: no tile stays claimed, and nothing is asked or published
  pub free : IsUnclaimed new
  pub ground : new.ground ≡ old.ground
  pub history : new.history ≡ old.history
  pub published : new.published ≡ old.published
  pub rules : IsBook new

-- `settle`: every job is put back, every tile that is awaited for the whole history is built, and the whole history is published
pub record IsSettleStep {E : Type 0} (old new : BookState) (before after : ℕ) (result : Result ℕ E) : Type 0 where
  pub book : OnOk result (new ≡ after_settle old)
  -- so the publish at its end never has to wait for a tile
  pub shown : OnOk result (new.published ≡ length old.history)
  -- the count of steps, also where memory is refused
  pub steps : OnOk result (after ≡ before + length (awaited_tiles (settling old)))
  pub most : HasRisenAtMost (length (awaited_tiles (settling old))) before after
  -- and what holds in both cases: no tile stays claimed, and nothing is asked
  pub free : IsUnclaimed new
  pub ground : new.ground ≡ old.ground
  pub history : new.history ≡ old.history
  -- where memory is refused, what is published is as it was
  pub refused : OnErr result (new.published ≡ old.published)
  -- the answer is the length of the history
  pub length : IfOk result (λ k. k ≡ length old.history)
