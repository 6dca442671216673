-- The parts of a restoration: rows that are off, put in place of all others, and then switched on.
use Rattle.std.specs.Prelude.{◌≡◌, ◌≢◌, ℕ, ◌+◌, ◌<◌, ◌≤◌, ◌==◌, List, [], length, map, All, AllPairs}
use Rattle.std.specs.List.{count_by}
use Rattle.nav_ground.specs.declared.history.Request.TheVariants.{Add}
use Rattle.nav_ground.specs.History.{history_limit}
use Rattle.nav_ground.specs.Limits.{IsShape}
use Rattle.build_queue.specs.BookState.{BookState}
use Rattle.obstacle_registry.specs.declared.row.Registered.{Registered}
use Rattle.obstacle_registry.specs.Registry.{HaveIds, RegistryState, alive_now, row_limit, rows_with_number}
use Rattle.obstacle_registry.specs.Saving.{after_requests, place_of, removals, row_saved, shapes_at}

-- each number of a list is that of one row, and each row with a number, from 1, has one of the list
abbrev pub HaveNumbers : List ℕ → List Registered → Type 0
HaveNumbers numbers rows = (number : ℕ) → 1 ≤ number → rows_with_number number rows ≡ count_by (λ n. n == number) numbers

-- rows of obstacles that are off, with ids up to the last one
pub record AreOffRows (last : ℕ) (rows : List Registered) : Type 0 where
  pub ids : HaveIds last rows
  pub limits : All (λ (row : Registered). IsShape row.shape) rows
  pub off : All (λ (row : Registered). row.number ≡ 0) rows
  pub few : length rows ≤ row_limit

-- all obstacles that are alive were removed
abbrev pub all_removed : BookState → BookState
all_removed book = after_requests book (removals book)

-- rows stand in place of all others, which were removed
abbrev pub with_rows : RegistryState → List Registered → ℕ → ℕ → RegistryState
with_rows state rows last version = record { book = all_removed state.book; rows = rows; last = last; version = version }

-- the rows at some places may be switched on: all are off, the places are there, each once, and there is room for so many
pub record AreToSwitch (state : RegistryState) (places : List ℕ) : Type 0 where
  pub none : alive_now state.book ≡ []
  pub off : All (λ (row : Registered). row.number ≡ 0) state.rows
  pub there : All (λ place. place < length state.rows) places
  pub once : AllPairs (λ (a b : ℕ). a ≢ b) places
  pub few : length places ≤ state.book.ground.setting.limit
  pub room : length state.book.history + length places ≤ history_limit

-- they were switched on in that order, and no others; of each row the id, the user's number and the shape are the same
pub record AreSwitchedOn (places : List ℕ) (old new : RegistryState) : Type 0 where
  pub book : new.book ≡ after_requests old.book (map Add (shapes_at (map row_saved old.rows) places))
  pub rows : map row_saved new.rows ≡ map row_saved old.rows
  pub on : map (place_of new.rows) (alive_now new.book) ≡ places
  pub last : new.last ≡ old.last
  pub version : new.version ≡ old.version
