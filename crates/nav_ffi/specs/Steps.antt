-- Steps over the border: how they end, what they tell, and what the handle holds then.
use Rattle.std.specs.Prelude.{◌≡◌, ◌⊎◌, ℕ, length, Option, Some, None}
use Rattle.build_queue.specs.declared.live.Published.{Published}
use Rattle.build_queue.specs.declared.live.Published.TheVariants.{New, Same, NotYet}
use Rattle.build_queue.specs.BookState.{BookState, least_claimable}
use Rattle.build_queue.specs.Steps.{after_aim, after_publish, publication}
use Rattle.nav_book.specs.LevelResults.{IsNew}
use Rattle.nav_book.specs.Settling.{IsUnclaimed, after_job, after_settle}
use Rattle.nav_handle.specs.Statuses as status

-- how a step ended, which number it told, and what the handle holds then
pub record Ended : Type 0 where
  pub status : ℕ
  pub number : ℕ
  pub held : Option BookState

-- it ended with a status, told a number, and left a state; or it ended with a status alone, and left all as it was
abbrev pub done : ℕ → ℕ → BookState → Ended
done why number state = record { status = why; number = number; held = Some state }

abbrev pub not_done : ℕ → ℕ → Option BookState → Ended
not_done why number held = record { status = why; number = number; held = held }

-- an aim, with the number that was told before
abbrev pub aimed : Option BookState → ℕ → Ended
aimed None before = not_done status.empty before None
aimed (Some state) before = done status.ok (length state.history) (after_aim state)

-- a publish tells how many entries are published, or the tile that is awaited
abbrev pub published_by : BookState → Published → Ended
published_by state (New k) = done status.ok k (after_publish state)
published_by state (Same k) = done status.same k state
published_by state (NotYet tile) = done status.not_yet tile state

-- a publish of what a handle holds; memory may be refused only where something new is to be published, and then nothing was done
abbrev pub IsPublishing : Option BookState → ℕ → Ended → Type 0
IsPublishing None before ended = ended ≡ not_done status.empty before None
IsPublishing (Some state) before ended =
    (ended ≡ published_by state (publication state)) ⊎ (IsNew (publication state) × (ended ≡ not_done status.no_memory before (Some state)))

-- a step by one tile: the least that is awaited and not claimed is built and handed in, and told; where there is none, nothing is done
abbrev pub stepped_by : BookState → ℕ → Option ℕ → Ended
stepped_by state before (Some tile) = done status.ok tile (after_job state tile)
stepped_by state before None = done status.same before state

abbrev pub stepped : Option BookState → ℕ → Ended
stepped None before = not_done status.empty before None
stepped (Some state) before = stepped_by state before (least_claimable state)

-- a step of what a handle holds: where there is a level memory may be refused, and then nothing was done
abbrev pub UnlessRefused : Ended → Option BookState → ℕ → Ended → Type 0
UnlessRefused wanted None before ended = ended ≡ wanted
UnlessRefused wanted (Some state) before ended = (ended ≡ wanted) ⊎ (ended ≡ not_done status.no_memory before (Some state))

-- a settle that wanted memory: the ground, the history and what is published are as they were, and no tile is claimed, so that steps build on
pub record IsCutShort (state : BookState) (before : ℕ) (ended : Ended) : Type 0 where
  pub status : ended.status ≡ status.no_memory
  pub number : ended.number ≡ before
  pub after : BookState
  pub held : ended.held ≡ Some after
  pub ground : after.ground ≡ state.ground
  pub history : after.history ≡ state.history
  pub published : after.published ≡ state.published
  pub free : IsUnclaimed after

-- a settle of what a handle holds: all is built and published, unless memory is refused
abbrev pub IsSettled : Option BookState → ℕ → Ended → Type 0
IsSettled None before ended = ended ≡ not_done status.empty before None
IsSettled (Some state) before ended = (ended ≡ done status.ok (length state.history) (after_settle state)) ⊎ IsCutShort state before ended
