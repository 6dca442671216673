-- Renewal: the history of a registry's level begins again.
use Rattle.std.specs.Prelude.{◌≡◌, ℕ, ◌==◌, ◌&&◌, Bool, true, false, List, length, map, nat_le}
use Rattle.std.specs.List.{count_by}
use Rattle.build_queue.specs.BookState.{BookState}
use Rattle.build_queue.specs.Renewal.{IsRenewed}
use Rattle.obstacle_registry.specs.Registry.{RegistryState, alive_now}
use Rattle.obstacle_registry.specs.declared.row.Registered.{Registered}

-- how many of the numbers are not above one: its place among them, from 1, where it is one of them
abbrev pub rank : List ℕ → ℕ → ℕ
rank numbers number = count_by (λ n. nat_le n number) numbers

-- an obstacle that is on has the number of its new entry, which is the place of its old one
abbrev pub renumbered : List ℕ → Registered → Registered
renumbered numbers row = record row { number = rank numbers row.number }

-- a registry is another one renewed: its level is, and the obstacles are as they were but for the numbers of their entries
pub record IsRenewedRegistry (old new : RegistryState) : Type 0 where
  pub book : IsRenewed old.book new.book
  pub rows : new.rows ≡ map (renumbered (alive_now old.book)) old.rows
  pub last : new.last ≡ old.last
  pub version : new.version ≡ old.version

-- half of the entries that a history may have
abbrev pub long_history : ℕ
long_history = 131072

-- all of a history that is so long is shown
abbrev pub is_due : BookState → Bool
is_due book = nat_le long_history (length book.history) && book.published == length book.history

-- a registry is another one, renewed where that is due
abbrev pub IsKeptShort : Bool → RegistryState → RegistryState → Type 0
IsKeptShort true old new = IsRenewedRegistry old new
IsKeptShort false old new = new ≡ old
