-- The registry of the obstacles of a level: what it is, and what every one keeps.
use Rattle.std.specs.Prelude.{◌≡◌, ℕ, ◌<◌, ◌≤◌, ◌^◌, Bool, not, ◌==◌, ◌||◌, List, [], length, filter, map, find, All, AllPairs, Option, Some, slice_get, if◌then◌else◌, nat_le, ◌+◌, ◌-◌}
use Rattle.std.specs.List.{count_by}
use Rattle.nav_ground.specs.History.{alive_after, history_limit, shape_of}
use Rattle.nav_ground.specs.Limits.{IsShape}
use Rattle.build_queue.specs.BookState.{BookState, IsBook}
use Rattle.obstacle_registry.specs.declared.row.Registered.{Registered}

-- the level; the obstacles, by their ids; the last id that was given; and the version, which counts how often something new was shown
pub record RegistryState : Type 0 where
  pub book : BookState
  pub rows : List Registered
  pub last : ℕ
  pub version : ℕ

-- the numbers of the obstacles that are alive after the whole history
abbrev pub alive_now : BookState → List ℕ
alive_now book = alive_after book.history (length book.history)

-- how many of the rows have a number
abbrev pub rows_with_number : ℕ → List Registered → ℕ
rows_with_number number rows = count_by (λ (row : Registered). row.number == number) rows

-- each obstacle that is alive is that of one row, and each row with a number, from 1, is that of an obstacle that is alive
abbrev pub AreNumbered : BookState → List Registered → Type 0
AreNumbered book rows = (number : ℕ) → 1 ≤ number → rows_with_number number rows ≡ count_by (λ alive. alive == number) (alive_now book)

-- a row has a shape within its limits, and the obstacle of its number has that shape
pub record IsRowOf (book : BookState) (row : Registered) : Type 0 where
  pub limits : IsShape row.shape
  pub added : 1 ≤ row.number → shape_of book.history row.number ≡ Some row.shape

-- the rows are those of the book's obstacles
pub record HoldsRows (book : BookState) (rows : List Registered) : Type 0 where
  pub numbers : AreNumbered book rows
  pub each : All (IsRowOf book) rows

-- ids are numbers from 1 up to the last one that was given, each for one row, and the rows stand in their order
pub record HaveIds (last : ℕ) (rows : List Registered) : Type 0 where
  pub rising : AllPairs (λ (a b : Registered). a.id < b.id) rows
  pub given : All (λ (row : Registered). (1 ≤ row.id) × (row.id ≤ last)) rows

-- as many rows as may be
abbrev pub row_limit : ℕ
row_limit = 65536

-- a registry: its level keeps the rules, the ids and the numbers are those above, and there are not too many rows
pub record IsRegistry (state : RegistryState) : Type 0 where
  pub book : IsBook state.book
  pub ids : HaveIds state.last state.rows
  pub holds : HoldsRows state.book state.rows
  pub few : length state.rows ≤ row_limit

-- the row with an id
abbrev pub row_of : ℕ → List Registered → Option Registered
row_of id rows = find (λ (row : Registered). row.id == id) rows

-- the rows with one in the place of the one with its id
abbrev pub with_row : Registered → List Registered → List Registered
with_row row rows = map (λ (other : Registered). if other.id == row.id then row else other) rows

-- the rows without the one with an id
abbrev pub without_row : ℕ → List Registered → List Registered
without_row id rows = filter (λ (row : Registered). not (row.id == id)) rows

-- an obstacle is on where it has the number of an entry
abbrev pub is_on : Registered → Bool
is_on row = not (row.number == 0)

-- as many obstacles are alive as may be
abbrev pub is_crowded : BookState → Bool
is_crowded book = length (alive_now book) == book.ground.setting.limit

-- two entries more would still be few enough
abbrev pub has_room : BookState → Bool
has_room book = nat_le (length book.history + 2) history_limit

-- the row at a place has an id, and is that of an obstacle that is off
pub record IsOffAt (rows : List Registered) (place id : ℕ) : Type 0 where
  pub row : Registered
  pub there : slice_get rows place ≡ Some row
  pub its : row.id ≡ id
  pub off : row.number ≡ 0

-- no obstacle can be added: as many are alive as may be, there are as many rows as may be, or all ids of 64 bits were given
abbrev pub is_crowded_registry : RegistryState → Bool
is_crowded_registry state = is_crowded state.book || (length state.rows == row_limit || state.last == 2 ^ 64 - 1)

-- a row may be written over the one at a place: it has the same id and number, and, where it is on, the same shape
pub record IsRewriting (rows : List Registered) (place : ℕ) (row : Registered) : Type 0 where
  pub before : Registered
  pub there : slice_get rows place ≡ Some before
  pub id : before.id ≡ row.id
  pub number : before.number ≡ row.number
  pub shape : 1 ≤ row.number → before.shape ≡ row.shape
  pub limits : IsShape row.shape

-- the registry of a level without obstacles
abbrev pub first_registry : BookState → RegistryState
first_registry book = record { book = book; rows = []; last = 0; version = 0 }

-- all versions of 64 bits were shown
abbrev pub is_last_version : RegistryState → Bool
is_last_version state = state.version == 2 ^ 64 - 1
