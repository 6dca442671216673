-- What is saved of a registry, and what `restore` makes of one.
use Rattle.std.specs.Prelude.{◌≡◌, ◌⊎◌, ℕ, ◌+◌, ◌-◌, ◌^◌, max, Bool, not, ◌&&◌, ◌==◌, nat_le, if◌then◌else◌, List, ◌++◌, length, map, filter_map, slice_get, fold, option_map, Option, Some, None, Result, Ok, Err, ⊤}
use Rattle.std.specs.List.{position_or_len}
use Rattle.nav_ground.specs.declared.history.Request.{Request}
use Rattle.nav_ground.specs.declared.history.Request.TheVariants.{Add, Remove}
use Rattle.nav_ground.specs.declared.setting.Setting.{Setting}
use Rattle.nav_ground.specs.declared.shape.Shape.{Shape}
use Rattle.nav_ground.specs.History.{history_limit}
use Rattle.build_queue.specs.BookState.{BookState}
use Rattle.build_queue.specs.Steps.{after_request}
use Rattle.registry_format.specs.Saved.{IsSaved}
use Rattle.registry_format.specs.Spelling.{saved_bytes}
use Rattle.registry_format.specs.declared.reading.SavedFault.{SavedFault}
use Rattle.registry_format.specs.declared.reading.SavedFault.TheVariants as faults
use Rattle.registry_format.specs.declared.saved.SavedField.{SavedField}
use Rattle.registry_format.specs.declared.saved.SavedObstacle.{SavedObstacle}
use Rattle.registry_format.specs.declared.saved.SavedRegistry.{SavedRegistry}
use Rattle.obstacle_registry.specs.declared.row.Refused.{Refused}
use Rattle.obstacle_registry.specs.declared.row.Refused.TheVariants.{Foreign, HistoryFull, NoMemory, NotSaved, TooMany}
use Rattle.obstacle_registry.specs.declared.row.Registered.{Registered}
use Rattle.obstacle_registry.specs.Registry.{RegistryState, alive_now}

-- the field of a setting
abbrev pub field_of : Setting → SavedField
field_of setting = record { width = setting.width; depth = setting.depth; tile = setting.tile; limit = setting.limit }

-- of an obstacle its id, the host's number and its shape are saved
abbrev pub row_saved : Registered → SavedObstacle
row_saved row = record { id = row.id; user = row.user; shape = row.shape }

-- the obstacle of what was saved, switched off
abbrev pub row_off : SavedObstacle → Registered
row_off row = record { id = row.id; shape = row.shape; user = row.user; number = 0 }

-- the place of the row with a number
abbrev pub place_of : List Registered → ℕ → ℕ
place_of rows number = position_or_len (λ (row : Registered). row.number == number) rows

-- what is saved of a registry: its field, the last id, the version, the rows, and the places of those that are on, in the order in which they were put up
abbrev pub saved_from : RegistryState → SavedRegistry
saved_from state = record {
  field = field_of state.book.ground.setting;
  last = state.last;
  version = state.version;
  rows = map row_saved state.rows;
  on = map (place_of state.rows) (alive_now state.book);
}

-- the shapes of the rows at some places
abbrev pub shapes_at : List SavedObstacle → List ℕ → List Shape
shapes_at rows places = filter_map (λ place. option_map (λ (row : SavedObstacle). row.shape) (slice_get rows place)) places

-- requests are made one after the other, each an entry of the history
abbrev pub after_requests : BookState → List Request → BookState
after_requests book requests = fold (λ (before : BookState) (request : Request). after_request before 0 request) book requests

-- the obstacles that are alive are removed, and those that were on are added, each in the order in which they were put up
abbrev pub removals : BookState → List Request
removals book = map Remove (alive_now book)

abbrev pub additions : SavedRegistry → List Request
additions saved = map Add (shapes_at saved.rows saved.on)

-- a registry is restored: its level was asked for that, so that what it aims at, what it shows and its claims stay; and what is saved of it now is what
-- was saved, but that no id and no version comes again
pub record IsRestored (saved : SavedRegistry) (old new : RegistryState) : Type 0 where
  pub book : new.book ≡ after_requests old.book (removals old.book ++ additions saved)
  pub again : saved_from new ≡ record saved { last = max old.last saved.last; version = max old.version saved.version + 1 }

-- the sizes of a field, of its tiles, and how many obstacles may be on are the same
abbrev pub is_same_field : SavedField → SavedField → Bool
is_same_field a b = a.width == b.width && (a.depth == b.depth && (a.tile == b.tile && a.limit == b.limit))

-- all versions of 64 bits were shown of one of the two
abbrev pub is_last_of_both : RegistryState → SavedRegistry → Bool
is_last_of_both state saved = max state.version saved.version == 2 ^ 64 - 1

-- the history may have an entry more for each obstacle that is alive, and so many besides
abbrev pub has_room_for : ℕ → BookState → Bool
has_room_for count book = nat_le (length book.history + (length (alive_now book) + count)) history_limit

-- `restore`: it was saved of another field; all versions were shown; or the history would have too many entries
abbrev pub why_not_restored : RegistryState → SavedRegistry → Option Refused
why_not_restored state saved =
    if not (is_same_field (field_of state.book.ground.setting) saved.field) then Some Foreign
    else if is_last_of_both state saved then Some TooMany
    else if has_room_for (length saved.on) state.book then None
    else Some HistoryFull

-- a saved registry was restored, or was not: for what is against it, or as memory was refused
abbrev pub IsRestoring : SavedRegistry → RegistryState → RegistryState → Result ⊤ Refused → Type 0
IsRestoring saved old new (Ok done) = (why_not_restored old saved ≡ None) × IsRestored saved old new
IsRestoring saved old new (Err why) = (why ≡ NoMemory) ⊎ (why_not_restored old saved ≡ Some why)

-- why bytes that were not read are refused
abbrev pub refusal : SavedFault → Refused
refusal faults.NotSaved = NotSaved
refusal faults.NoMemory = NoMemory

-- bytes are those of a saved registry
pub record AreOf (bytes : List ℕ) (saved : SavedRegistry) : Type 0 where
  pub is : IsSaved saved
  pub spelled : bytes ≡ saved_bytes saved

-- bytes that are of no saved registry are refused so
abbrev pub IsNotRead : Result ⊤ Refused → Type 0
IsNotRead (Ok done) = ⊥
IsNotRead (Err why) = (why ≡ NotSaved) ⊎ (why ≡ NoMemory)
