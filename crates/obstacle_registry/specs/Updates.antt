-- What an update makes of a level, and of a registry.
use Rattle.std.specs.Prelude.{◌≡◌, ℕ, zero, suc, ◌+◌, ◌≤◌, ◌==◌, Bool, true, false, if◌then◌else◌}
use Rattle.build_queue.specs.declared.live.Published.{Published}
use Rattle.build_queue.specs.declared.live.Published.TheVariants.{New, Same, NotYet}
use Rattle.build_queue.specs.BookState.{BookState}
use Rattle.build_queue.specs.Steps.{after_aim, after_publish, publication}
use Rattle.nav_book.specs.Settling.{after_step, steps_due}
use Rattle.obstacle_registry.specs.Registry.{RegistryState}

-- the whole history is aimed at, unless what was aimed at before is not published: so each target comes to be published
abbrev pub aimed_if_shown : BookState → BookState
aimed_if_shown book = if book.target == book.published then after_aim book else book

-- so many times, the least tile that can be claimed is built; nothing is done where there is none
unfoldable pub stepped_up_to : ℕ → BookState → BookState
stepped_up_to zero book = book
stepped_up_to (suc n) book = after_step (stepped_up_to n book)

-- how many tiles are built with that
unfoldable pub tiles_built : ℕ → BookState → ℕ
tiles_built zero book = 0
tiles_built (suc n) book = tiles_built n book + steps_due (stepped_up_to n book)

-- the level with so many steps at most, before it is published
abbrev pub built_up_to : ℕ → BookState → BookState
built_up_to most book = stepped_up_to most (aimed_if_shown book)

-- the level after an update of so many tiles at most
abbrev pub updated : ℕ → BookState → BookState
updated most book = after_publish (built_up_to most book)

-- the answer says that something new is shown
abbrev pub is_new : Published → Bool
is_new (New k) = true
is_new (Same k) = false
is_new (NotYet tile) = false

-- whether such an update shows something new
abbrev pub is_showing : ℕ → BookState → Bool
is_showing most book = is_new (publication (built_up_to most book))

-- `update`: the version is one more where something new is shown
abbrev pub after_update : ℕ → RegistryState → RegistryState
after_update most state = record state {
  book = updated most state.book;
  version = if is_showing most state.book then state.version + 1 else state.version;
}

-- some of an update was done: some of the steps, and nothing is published
pub record IsPartOfUpdate (most : ℕ) (old new : BookState) : Type 0 where
  pub steps : ℕ
  pub few : steps ≤ most
  pub done : new ≡ built_up_to steps old

-- some of the steps were done
pub record IsSomeSteps (most : ℕ) (old new : BookState) : Type 0 where
  pub steps : ℕ
  pub few : steps ≤ most
  pub done : new ≡ stepped_up_to steps old
