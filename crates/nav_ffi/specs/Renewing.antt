-- Renewal over the border: when the history of what a handle holds begins again, what is told, and what the handle holds then.
use Rattle.std.specs.Prelude.{◌≡◌, ◌⊎◌, ℕ, ◌<◌, ◌≤◌, List, length, Option, Some, None}
use Rattle.nav_ground.specs.History.{alive_after}
use Rattle.build_queue.specs.BookState.{BookState}
use Rattle.build_queue.specs.Renewal.{IsRenewed}
use Rattle.nav_book.specs.LevelResults.{published_mesh}
use Rattle.nav_handle.specs.Statuses as status
use Rattle.nav_handle.specs.Wire.{laid}

-- how a renewal ended, what the handle holds then, and the host's places: for how many numbers there are, and for the numbers
pub record Renewing : Type 0 where
  pub status : ℕ
  pub held : Option BookState
  pub told : ℕ × List ℕ

-- the numbers of the obstacles that are alive
abbrev pub numbers_of : BookState → List ℕ
numbers_of state = alive_after state.history (length state.history)

-- all is published, and there is room for the numbers: the history begins again, the published mesh is the same, and the numbers that the obstacles
-- had are told in the order of their new ones
pub record HasBegunAgain (state : BookState) (room : ℕ × List ℕ) (ended : Renewing) : Type 0 where
  pub shown : state.published ≡ length state.history
  pub fits : length (numbers_of state) ≤ length room.1
  pub status : ended.status ≡ status.ok
  pub after : BookState
  pub held : ended.held ≡ Some after
  pub renewed : IsRenewed state after
  pub mesh : published_mesh after ≡ published_mesh state
  pub told : ended.told ≡ (length (numbers_of state), laid (numbers_of state) room.1)

-- all is published, and there is too little room: how many numbers there are is told, and nothing is done
pub record WantsRoom (state : BookState) (room : ℕ × List ℕ) (ended : Renewing) : Type 0 where
  pub shown : state.published ≡ length state.history
  pub over : length room.1 < length (numbers_of state)
  pub ends : ended ≡ record { status = status.no_room; held = Some state; told = (length (numbers_of state), room.1) }

-- not all is published: nothing is done
pub record WantsPublish (state : BookState) (room : ℕ × List ℕ) (ended : Renewing) : Type 0 where
  pub waits : state.published ≡ length state.history → ⊥
  pub ends : ended ≡ record { status = status.not_yet; held = Some state; told = room }

-- a renewal of what a handle holds; where memory is refused, nothing is done
abbrev pub IsRenewing : Option BookState → ℕ × List ℕ → Renewing → Type 0
IsRenewing None room ended = ended ≡ record { status = status.empty; held = None; told = room }
IsRenewing (Some state) room ended =
    (HasBegunAgain state room ended ⊎ WantsRoom state room ended)
    ⊎ (WantsPublish state room ended ⊎ (ended ≡ record { status = status.no_memory; held = Some state; told = room }))
