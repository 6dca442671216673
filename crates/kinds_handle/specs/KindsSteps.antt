-- Steps of kinds over the border: how they end, what they tell, and what the handle holds then.
use Rattle.std.specs.Prelude.{◌≡◌, ◌⊎◌, ℕ, List, length, map, Option, Some, None, All}
use Rattle.build_queue.specs.BookState.{BookState}
use Rattle.build_queue.specs.Steps.{after_aim, after_put_back_all}
use Rattle.nav_book.specs.LevelResults.{published_mesh}
use Rattle.nav_book.specs.Settling.{after_settle, after_step}
use Rattle.agent_kinds.specs.declared.publish.KindsPublished.{KindsPublished}
use Rattle.agent_kinds.specs.declared.publish.KindsPublished.TheVariants.{New, Same, NotYet}
use Rattle.agent_kinds.specs.Firsts.{at_found, first_awaited, first_claimable}
use Rattle.agent_kinds.specs.KindSteps.{after_publish_all, publication_by}
use Rattle.nav_handle.specs.Statuses as status

-- how a step ended, which number it told, and what the handle holds then
pub record KindsEnded : Type 0 where
  pub status : ℕ
  pub number : ℕ
  pub held : Option (List BookState)

-- all kinds aim at the whole history, whose length is told
pub record HaveAimed (states : List BookState) (ended : KindsEnded) : Type 0 where
  pub status : ended.status ≡ status.ok
  pub number : All (λ (state : BookState). ended.number ≡ length state.history) states
  pub held : ended.held ≡ Some (map after_aim states)

abbrev pub AreAimed : Option (List BookState) → ℕ → KindsEnded → Type 0
AreAimed None before ended = ended ≡ record { status = status.empty; number = before; held = None }
AreAimed (Some states) before ended = HaveAimed states ended

-- all kinds are settled: they show the whole history, whose length is told
pub record HaveSettled (states : List BookState) (ended : KindsEnded) : Type 0 where
  pub status : ended.status ≡ status.ok
  pub number : All (λ (state : BookState). ended.number ≡ length state.history) states
  pub held : ended.held ≡ Some (map after_settle states)

-- or memory was refused: the histories are as they were, and each kind shows what it showed
pub record StayShown (states : List BookState) (before : ℕ) (ended : KindsEnded) : Type 0 where
  pub status : ended.status ≡ status.no_memory
  pub number : ended.number ≡ before
  pub after : List BookState
  pub held : ended.held ≡ Some after
  pub history : map (λ (state : BookState). state.history) after ≡ map (λ (state : BookState). state.history) states
  pub meshes : map published_mesh after ≡ map published_mesh states

abbrev pub AreSettled : Option (List BookState) → ℕ → KindsEnded → Type 0
AreSettled None before ended = ended ≡ record { status = status.empty; number = before; held = None }
AreSettled (Some states) before ended = HaveSettled states ended ⊎ StayShown states before ended

-- all claims of all kinds are ended
abbrev pub AreAllFree : Option (List BookState) → Option (List BookState) → ℕ → Type 0
AreAllFree None after ended = (ended ≡ status.empty) × (after ≡ None)
AreAllFree (Some states) after ended = (ended ≡ status.ok) × (after ≡ Some (map after_put_back_all states))

-- how a step ended that tells a kind and a number, and what the handle holds then
pub record KindTold : Type 0 where
  pub status : ℕ
  pub kind : ℕ
  pub number : ℕ
  pub held : Option (List BookState)

-- a step by one tile, in the least kind that has one to build: both are told; where there is none, nothing is done
abbrev pub stepped_by : List BookState → ℕ → ℕ → Option (ℕ × ℕ) → KindTold
stepped_by states kind tile (Some first) =
    record { status = status.ok; kind = first.0; number = first.1; held = Some (at_found after_step (Some first) states) }
stepped_by states kind tile None = record { status = status.same; kind = kind; number = tile; held = Some states }

-- a step of what a handle holds, unless memory is refused
abbrev pub AreStepped : Option (List BookState) → ℕ → ℕ → KindTold → Type 0
AreStepped None kind tile ended = ended ≡ record { status = status.empty; kind = kind; number = tile; held = None }
AreStepped (Some states) kind tile ended =
    (ended ≡ stepped_by states kind tile (first_claimable states))
    ⊎ (ended ≡ record { status = status.no_memory; kind = kind; number = tile; held = Some states })

-- a publish tells how many entries are published; or the kind and the tile that is awaited
abbrev pub published_by : List BookState → ℕ → ℕ → KindsPublished → KindTold
published_by states kind number (New k) = record { status = status.ok; kind = kind; number = k; held = Some (after_publish_all states) }
published_by states kind number (Same k) = record { status = status.same; kind = kind; number = k; held = Some (after_publish_all states) }
published_by states kind number (NotYet awaited tile) =
    record { status = status.not_yet; kind = awaited; number = tile; held = Some (after_publish_all states) }

-- it ends so by each kind; memory may be refused only where something new is to be published, and then nothing was done
pub record IsRefusedNew (states : List BookState) (kind number : ℕ) (ended : KindTold) : Type 0 where
  pub wanted : All (λ (state : BookState). publication_by (first_awaited states) state ≡ New state.target) states
  pub ends : ended ≡ record { status = status.no_memory; kind = kind; number = number; held = Some states }

abbrev pub ArePublished : Option (List BookState) → ℕ → ℕ → KindTold → Type 0
ArePublished None kind number ended = ended ≡ record { status = status.empty; kind = kind; number = number; held = None }
ArePublished (Some states) kind number ended =
    All (λ (state : BookState). ended ≡ published_by states kind number (publication_by (first_awaited states) state)) states
    ⊎ IsRefusedNew states kind number ended
