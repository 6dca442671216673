-- Registries over the border: begun of a level, and updated.
use Rattle.std.specs.Prelude.{◌≡◌, ◌⊎◌, ℕ, ◌==◌, Bool, true, false, if◌then◌else◌, length, Option, Some, None}
use Rattle.build_queue.specs.BookState.{BookState}
use Rattle.nav_book.specs.LevelResults.{published_mesh}
use Rattle.nav_handle.specs.Statuses as status
use Rattle.obstacle_registry.specs.Registry.{RegistryState, alive_now, first_registry, is_last_version}
use Rattle.obstacle_registry.specs.Renewal.{IsKeptShort, is_due}
use Rattle.obstacle_registry.specs.Updates.{IsPartOfUpdate, after_update, aimed_if_shown, is_showing, tiles_built}
use Rattle.registry_handle.specs.declared.updates.NavdUpdated.{NavdUpdated}

-- how a beginning ended, and what the two handles hold then
pub record Beginning : Type 0 where
  pub status : ℕ
  pub level : Option BookState
  pub registry : Option RegistryState

-- a level of which no obstacle is alive goes over into its registry; another one stays
abbrev pub begun_by : Bool → BookState → Option RegistryState → Beginning
begun_by true state before = record { status = status.ok; level = None; registry = Some (first_registry state) }
begun_by false state before = record { status = status.busy; level = Some state; registry = before }

-- the beginning of the registry of what a level's handle holds; where memory is refused, nothing is done
abbrev pub IsBeginning : Option BookState → Option RegistryState → Beginning → Type 0
IsBeginning None before ended = ended ≡ record { status = status.empty; level = None; registry = before }
IsBeginning (Some state) before ended =
    (ended ≡ begun_by (length (alive_now state) == 0) state before)
    ⊎ (ended ≡ record { status = status.no_memory; level = Some state; registry = before })

-- what is told of an update: how many tiles were built, whether something new is shown, whether the history has more than is shown, and the version
abbrev pub update_told : ℕ → Bool → RegistryState → NavdUpdated
update_told built published after = record {
  built = built;
  published = if published then 1 else 0;
  pending = if after.book.published == length after.book.history then 0 else 1;
  version = after.version;
}

-- how an update ended, what it told, and what the handle holds then
pub record Updating : Type 0 where
  pub status : ℕ
  pub told : NavdUpdated
  pub held : Option RegistryState

-- an update was done, and is told; and where all of a long history is shown then, it began again, and what is shown is the same
pub record IsUpdated (most : ℕ) (state : RegistryState) (ended : Updating) : Type 0 where
  pub status : ended.status ≡ status.ok
  pub told : ended.told ≡ update_told (tiles_built most (aimed_if_shown state.book)) (is_showing most state.book) (after_update most state)
  pub after : RegistryState
  pub held : ended.held ≡ Some after
  pub short : IsKeptShort (is_due (after_update most state).book) (after_update most state) after
  pub mesh : published_mesh after.book ≡ published_mesh (after_update most state).book

-- an update that wanted memory: some of the tiles were built, nothing new is shown, and the obstacles are as they were
pub record IsCutShort (most : ℕ) (state : RegistryState) (before : NavdUpdated) (ended : Updating) : Type 0 where
  pub status : ended.status ≡ status.no_memory
  pub told : ended.told ≡ before
  pub after : RegistryState
  pub held : ended.held ≡ Some after
  pub part : IsPartOfUpdate most state.book after.book
  pub rows : after.rows ≡ state.rows
  pub last : after.last ≡ state.last
  pub version : after.version ≡ state.version

-- an update of a registry; where all versions of 64 bits were shown, nothing is done
abbrev pub IsUpdatedBy : Bool → ℕ → RegistryState → NavdUpdated → Updating → Type 0
IsUpdatedBy true most state before ended = ended ≡ record { status = status.too_many; told = before; held = Some state }
IsUpdatedBy false most state before ended = IsUpdated most state ended ⊎ IsCutShort most state before ended

-- an update of what a handle holds
abbrev pub IsUpdating : Option RegistryState → ℕ → NavdUpdated → Updating → Type 0
IsUpdating None most before ended = ended ≡ record { status = status.empty; told = before; held = None }
IsUpdating (Some state) most before ended = IsUpdatedBy (is_last_version state) most state before ended
