-- Calls of a registry over the border: how they end, and what the handle holds then.
use Rattle.std.specs.Prelude.{◌≡◌, ◌⊎◌, ℕ, ◌+◌, Bool, Option, Some, None}
use Rattle.std.specs.Option.{option_map_or}
use Rattle.nav_ground.specs.declared.shape.Shape.{Shape}
use Rattle.nav_handle.specs.Statuses as status
use Rattle.obstacle_registry.specs.Changes.{after_add, after_enable, after_mark, after_move, after_remove, why_not_added, why_not_enabled, why_not_marked, why_not_taken}
use Rattle.obstacle_registry.specs.Registry.{RegistryState, row_of}
use Rattle.obstacle_registry.specs.declared.row.Refused.{Refused}
use Rattle.obstacle_registry.specs.declared.row.Refused.TheVariants.{NoObstacle, Same, TooMany, HistoryFull, NoMemory, NotSaved, Foreign}
use Rattle.obstacle_registry.specs.declared.row.Registered.{Registered}

-- no obstacle has the id; include/navd.h has the same
abbrev pub no_obstacle : ℕ
no_obstacle = 24

-- the bytes are those of no saved registry; include/navd.h has the same
abbrev pub not_saved : ℕ
not_saved = 25

-- the status with which a call that is refused ends
abbrev pub refusal_status : Refused → ℕ
refusal_status NoObstacle = no_obstacle
refusal_status Same = status.same
refusal_status TooMany = status.too_many
refusal_status HistoryFull = status.history_full
refusal_status NoMemory = status.no_memory
refusal_status NotSaved = not_saved
refusal_status Foreign = status.foreign

-- a call of a registry ended: it was done where nothing is against it; else it is refused for that, and nothing has changed
abbrev pub IsEnded : Option Refused → RegistryState → RegistryState → Option RegistryState → ℕ → Type 0
IsEnded None before after held ended = (ended ≡ status.ok) × (held ≡ Some after)
IsEnded (Some why) before after held ended = (ended ≡ refusal_status why) × (held ≡ Some before)

-- a call of what a handle holds, by what is against it and what it makes of a registry
abbrev pub IsCalled : (RegistryState → Option Refused) → (RegistryState → RegistryState) → Option RegistryState → Option RegistryState → ℕ → Type 0
IsCalled why after None held ended = (ended ≡ status.empty) × (held ≡ None)
IsCalled why after (Some state) held ended = IsEnded (why state) state (after state) held ended

-- what a change of the row with an id makes of a registry: nothing where there is no such row
abbrev pub changed_at : ℕ → (RegistryState → Registered → RegistryState) → RegistryState → RegistryState
changed_at id change state = option_map_or (change state) (row_of id state.rows) state

-- an obstacle is removed, moved, switched on or off, and given another number of the host's
abbrev pub IsRemoved : ℕ → Option RegistryState → Option RegistryState → ℕ → Type 0
IsRemoved id = IsCalled (λ state. why_not_taken state (row_of id state.rows)) (changed_at id after_remove)

abbrev pub IsMoved : ℕ → Shape → Option RegistryState → Option RegistryState → ℕ → Type 0
IsMoved id shape = IsCalled (λ state. why_not_taken state (row_of id state.rows)) (changed_at id (λ state row. after_move state row shape))

abbrev pub IsEnabled : ℕ → Bool → Option RegistryState → Option RegistryState → ℕ → Type 0
IsEnabled id on = IsCalled (λ state. why_not_enabled state (row_of id state.rows) on) (changed_at id (λ state row. after_enable state row on))

abbrev pub IsMarked : ℕ → ℕ → Option RegistryState → Option RegistryState → ℕ → Type 0
IsMarked id user = IsCalled (λ state. why_not_marked (row_of id state.rows)) (changed_at id (λ state row. after_mark state row user))

-- how an add ended, which id it told, and what the handle holds then
pub record Adding : Type 0 where
  pub status : ℕ
  pub id : ℕ
  pub held : Option RegistryState

-- it was done, and tells the id that is one more than the last; or it was refused, and tells none
abbrev pub added_by : Option Refused → RegistryState → Shape → ℕ → ℕ → Adding
added_by None state shape user before = record { status = status.ok; id = state.last + 1; held = Some (after_add state shape user) }
added_by (Some why) state shape user before = record { status = refusal_status why; id = before; held = Some state }

-- an add to what a handle holds, unless memory is refused
abbrev pub IsAdding : Option RegistryState → Shape → ℕ → ℕ → Adding → Type 0
IsAdding None shape user before ended = ended ≡ record { status = status.empty; id = before; held = None }
IsAdding (Some state) shape user before ended =
    (ended ≡ added_by (why_not_added state) state shape user before) ⊎ (ended ≡ record { status = status.no_memory; id = before; held = Some state })
