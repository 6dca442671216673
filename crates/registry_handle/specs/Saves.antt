-- Registries over the border, saved and restored.
use Rattle.std.specs.Prelude.{◌≡◌, ◌⊎◌, ℕ, ◌<◌, ◌≤◌, List, length, Option, Some, None}
use Rattle.nav_handle.specs.Answers.{EndsSo}
use Rattle.nav_handle.specs.Statuses as status
use Rattle.nav_handle.specs.Wire.{laid}
use Rattle.registry_format.specs.Saved.{IsSaved}
use Rattle.registry_format.specs.Spelling.{saved_bytes}
use Rattle.registry_format.specs.declared.saved.SavedRegistry.{SavedRegistry}
use Rattle.obstacle_registry.specs.Registry.{RegistryState}
use Rattle.obstacle_registry.specs.Saving.{AreOf, IsRestored, saved_from, why_not_restored}
use Rattle.obstacle_registry.specs.declared.row.Refused.{Refused}
use Rattle.registry_handle.specs.Calls.{not_saved, refusal_status}

-- bytes were written, as there is room for all of them, and it is told how many they are
pub record AreWritten (bytes : List ℕ) (before after : ℕ × List ℕ) (ended : ℕ) : Type 0 where
  pub fits : length bytes ≤ length before.1
  pub status : ended ≡ status.ok
  pub told : after ≡ (length bytes, laid bytes before.1)

-- there is too little room: it is told how many they are, and none is written
pub record AreTooMany (bytes : List ℕ) (before after : ℕ × List ℕ) (ended : ℕ) : Type 0 where
  pub over : length before.1 < length bytes
  pub status : ended ≡ status.no_room
  pub told : after ≡ (length bytes, before.1)

abbrev pub AreLaid : List ℕ → ℕ × List ℕ → ℕ × List ℕ → ℕ → Type 0
AreLaid bytes before after ended = AreWritten bytes before after ended ⊎ AreTooMany bytes before after ended

-- the bytes of what is saved of a registry were laid, and they are read again
pub record IsSavedInto (state : RegistryState) (before after : ℕ × List ℕ) (ended : ℕ) : Type 0 where
  pub saved : IsSaved (saved_from state)
  pub told : AreLaid (saved_bytes (saved_from state)) before after ended

-- what a handle holds was saved; where memory is refused, or there is no registry, nothing is told
abbrev pub IsSaving : Option RegistryState → ℕ × List ℕ → ℕ × List ℕ → ℕ → Type 0
IsSaving None before after ended = EndsSo status.empty before after ended
IsSaving (Some state) before after ended = IsSavedInto state before after ended ⊎ EndsSo status.no_memory before after ended

-- a handle holds a registry to which a saved one was restored
pub record HoldsRestored (saved : SavedRegistry) (state : RegistryState) (now : Option RegistryState) (ended : ℕ) : Type 0 where
  pub status : ended ≡ status.ok
  pub after : RegistryState
  pub held : now ≡ Some after
  pub restored : IsRestored saved state after

-- it was restored where nothing is against it; else that is refused, and nothing has changed
abbrev pub IsRestoredUnless : Option Refused → SavedRegistry → RegistryState → Option RegistryState → ℕ → Type 0
IsRestoredUnless None saved state held ended = HoldsRestored saved state held ended
IsRestoredUnless (Some why) saved state held ended = (ended ≡ refusal_status why) × (held ≡ Some state)

-- a restoration of a saved registry; where memory is refused, or there is no registry, nothing has changed
abbrev pub IsRestoredInto : SavedRegistry → Option RegistryState → Option RegistryState → ℕ → Type 0
IsRestoredInto saved None held ended = EndsSo status.empty None held ended
IsRestoredInto saved (Some state) held ended =
    IsRestoredUnless (why_not_restored state saved) saved state held ended ⊎ EndsSo status.no_memory (Some state) held ended

-- bytes that are of no saved registry are told so, unless memory is refused, and nothing has changed
abbrev pub AreNotRead : Option RegistryState → Option RegistryState → ℕ → Type 0
AreNotRead None held ended = EndsSo status.empty None held ended
AreNotRead (Some state) held ended = EndsSo not_saved (Some state) held ended ⊎ EndsSo status.no_memory (Some state) held ended

-- a restoration from bytes
pub record IsRestoredFrom (bytes : List ℕ) (before after : Option RegistryState) (ended : ℕ) : Type 0 where
  pub saved : (saved : SavedRegistry) → AreOf bytes saved → IsRestoredInto saved before after ended
  pub others : ((saved : SavedRegistry) → AreOf bytes saved → ⊥) → AreNotRead before after ended
