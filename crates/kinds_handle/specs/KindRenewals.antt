-- Renewal of kinds over the border: when their history begins again, what is told, and what the handle holds then.
use Rattle.std.specs.Prelude.{◌≡◌, ◌⊎◌, ℕ, ◌<◌, ◌≤◌, List, length, Option, Some, None, All}
use Rattle.std.specs.List.{AllZip}
use Rattle.nav_ground.specs.History.{alive_after}
use Rattle.build_queue.specs.BookState.{BookState}
use Rattle.build_queue.specs.Renewal.{IsAllShown}
use Rattle.build_queue.specs.StepContracts.{IsRenewStep}
use Rattle.nav_handle.specs.Statuses as status
use Rattle.nav_handle.specs.Wire.{laid}

-- how a renewal ended, what the handle holds then, and the host's places: for how many numbers there are, and for the numbers
pub record KindsRenewed : Type 0 where
  pub status : ℕ
  pub held : Option (List BookState)
  pub told : ℕ × List ℕ

-- the numbers are those of the obstacles that are alive in a kind
abbrev pub AreAliveIn : List ℕ → BookState → Type 0
AreAliveIn numbers state = numbers ≡ alive_after state.history (length state.history)

-- all is published, and there is room for the numbers: the history of each kind begins again, and the numbers that the obstacles had are told in the
-- order of their new ones
pub record HaveBegunAgain (states : List BookState) (room : ℕ × List ℕ) (ended : KindsRenewed) : Type 0 where
  pub shown : All IsAllShown states
  pub numbers : List ℕ
  pub alive : All (AreAliveIn numbers) states
  pub fits : length numbers ≤ length room.1
  pub status : ended.status ≡ status.ok
  pub after : List BookState
  pub held : ended.held ≡ Some after
  pub renewed : AllZip IsRenewStep states after
  pub told : ended.told ≡ (length numbers, laid numbers room.1)

-- all is published, and there is too little room: how many numbers there are is told, and nothing is done
pub record WantRoom (states : List BookState) (room : ℕ × List ℕ) (ended : KindsRenewed) : Type 0 where
  pub shown : All IsAllShown states
  pub numbers : List ℕ
  pub alive : All (AreAliveIn numbers) states
  pub over : length room.1 < length numbers
  pub ends : ended ≡ record { status = status.no_room; held = Some states; told = (length numbers, room.1) }

-- not all is published: nothing is done
pub record WantPublish (states : List BookState) (room : ℕ × List ℕ) (ended : KindsRenewed) : Type 0 where
  pub waits : All IsAllShown states → ⊥
  pub ends : ended ≡ record { status = status.not_yet; held = Some states; told = room }

-- a renewal of what a handle holds; where memory is refused, nothing is done
abbrev pub AreRenewed : Option (List BookState) → ℕ × List ℕ → KindsRenewed → Type 0
AreRenewed None room ended = ended ≡ record { status = status.empty; held = None; told = room }
AreRenewed (Some states) room ended =
    (HaveBegunAgain states room ended ⊎ WantRoom states room ended)
    ⊎ (WantPublish states room ended ⊎ (ended ≡ record { status = status.no_memory; held = Some states; told = room }))
