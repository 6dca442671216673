-- What each call makes of a registry, and why it is refused.
use Rattle.std.specs.Prelude.{ℕ, ◌+◌, Bool, true, false, [], ◌∷◌, ◌++◌, length, Option, Some, None, if◌then◌else◌}
use Rattle.nav_ground.specs.declared.shape.Shape.{Shape}
use Rattle.nav_ground.specs.declared.history.Request.TheVariants.{Add, Remove}
use Rattle.build_queue.specs.BookState.{BookState}
use Rattle.build_queue.specs.Steps.{after_request}
use Rattle.obstacle_registry.specs.declared.row.Registered.{Registered}
use Rattle.obstacle_registry.specs.declared.row.Refused.{Refused}
use Rattle.obstacle_registry.specs.declared.row.Refused.TheVariants.{NoObstacle, Same, TooMany, HistoryFull}
use Rattle.obstacle_registry.specs.Registry.{RegistryState, has_room, is_crowded, is_crowded_registry, is_on, with_row, without_row}

-- a shape is put up in a level: one entry adds it
abbrev pub put_up : Shape → BookState → BookState
put_up shape book = after_request book 0 (Add shape)

-- the obstacle of a number is taken down: one entry removes it
abbrev pub taken_down : ℕ → BookState → BookState
taken_down number book = after_request book 0 (Remove number)

-- the number of the entry that comes next
abbrev pub next_number : BookState → ℕ
next_number book = length book.history + 1

-- `add`: a row more, with the next id and the number of the entry that adds its shape
abbrev pub after_add : RegistryState → Shape → ℕ → RegistryState
after_add state shape' user' = record state {
  book = put_up shape' state.book;
  rows = state.rows ++ record { id = state.last + 1; shape = shape'; user = user'; number = next_number state.book } ∷ [];
  last = state.last + 1;
}

-- as many obstacles are on as may be, or there are as many rows as may be, or all ids of 64 bits were given; then that the history is full
abbrev pub why_not_added : RegistryState → Option Refused
why_not_added state =
    if is_crowded_registry state then Some TooMany
    else if has_room state.book then None else Some HistoryFull

-- an obstacle is switched off: it is taken down, and its row has no number
abbrev pub switched_off : RegistryState → Registered → RegistryState
switched_off state row = record state { book = taken_down row.number state.book; rows = with_row (record row { number = 0 }) state.rows }

-- it is switched on: its shape is put up, and its row has the number of that entry
abbrev pub switched_on : RegistryState → Registered → RegistryState
switched_on state row = record state { book = put_up row.shape state.book; rows = with_row (record row { number = next_number state.book }) state.rows }

-- a row is in the place of the one with its id
abbrev pub with_rewritten : RegistryState → Registered → RegistryState
with_rewritten state row = record state { rows = with_row row state.rows }

-- a row is no longer there
abbrev pub dropped : ℕ → RegistryState → RegistryState
dropped id state = record state { rows = without_row id state.rows }

-- `remove`: the obstacle is switched off where it is on, and its row is gone
abbrev pub after_remove : RegistryState → Registered → RegistryState
after_remove state row = dropped row.id (if is_on row then switched_off state row else state)

-- `enable`: the obstacle is switched on or off
abbrev pub after_enable : RegistryState → Registered → Bool → RegistryState
after_enable state row on = if on then switched_on state row else switched_off state row

-- `move_to`: where the obstacle is on, it is switched off, and then on with the new shape; where it is off, its row has the new shape
abbrev pub after_move : RegistryState → Registered → Shape → RegistryState
after_move state row shape' =
    if is_on row then switched_on (switched_off state row) (record row { shape = shape' })
    else with_rewritten state (record row { shape = shape' })

-- `mark`: the row has the host's new number
abbrev pub after_mark : RegistryState → Registered → ℕ → RegistryState
after_mark state row user' = with_rewritten state (record row { user = user' })

-- a call that makes entries is refused where the history may not have two more
abbrev pub why_not_entered : BookState → Option Refused
why_not_entered book = if has_room book then None else Some HistoryFull

-- `remove` and `move_to`: there is no such row; or its obstacle is on and the history is full
abbrev pub why_not_taken : RegistryState → Option Registered → Option Refused
why_not_taken state None = Some NoObstacle
why_not_taken state (Some row) = if is_on row then why_not_entered state.book else None

-- `mark`: there is no such row
abbrev pub why_not_marked : Option Registered → Option Refused
why_not_marked None = Some NoObstacle
why_not_marked (Some row) = None

-- `enable`: there is no such row; it is so already; as many are on as may be; or the history is full
abbrev pub why_not_enabled : RegistryState → Option Registered → Bool → Option Refused
why_not_enabled state None on = Some NoObstacle
why_not_enabled state (Some row) true = if is_on row then Some Same else if is_crowded state.book then Some TooMany else why_not_entered state.book
why_not_enabled state (Some row) false = if is_on row then why_not_entered state.book else Some Same
