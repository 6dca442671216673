-- Looking at a registry over the border: a view is brought up to what it shows.
use Rattle.std.specs.Prelude.{◌≡◌, ◌⊎◌, ℕ, Option, Some, None}
use Rattle.nav_ffi.specs.Viewing.{Looked, own_in}
use Rattle.nav_handle.specs.Statuses as status
use Rattle.nav_handle.specs.Views.{Seen, shown_to}
use Rattle.obstacle_registry.specs.Registry.{RegistryState}

-- a look at what a handle holds, for a view: it shows what the registry shows, with the costs that it has of its own, and the version is told, unless
-- memory is refused; where there is no registry it is as it was
abbrev pub IsRegistryLooked : Option RegistryState → Option Seen → ℕ → Looked → Type 0
IsRegistryLooked None before number ended = ended ≡ record { status = status.empty; number = number; held = before }
IsRegistryLooked (Some state) before number ended =
    (ended ≡ record { status = status.ok; number = state.version; held = Some (shown_to (own_in before) state.book) })
    ⊎ (ended ≡ record { status = status.no_memory; number = number; held = before })
