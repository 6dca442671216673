-- Looking over the border: a view is brought up to what a level has published, and may have costs of areas of its own.
use Rattle.std.specs.Prelude.{◌≡◌, ◌⊎◌, ℕ, List, Option, Some, None}
use Rattle.build_queue.specs.BookState.{BookState}
use Rattle.nav_handle.specs.Views.{AreCosts, Seen, seen_at, shown_to}
use Rattle.nav_handle.specs.Statuses as status

-- how a look ended, which length it told, and what the view's handle holds then
pub record Looked : Type 0 where
  pub status : ℕ
  pub number : ℕ
  pub held : Option Seen

-- the costs that the view of a handle has of its own
abbrev pub own_in : Option Seen → Option (List ℕ)
own_in None = None
own_in (Some seen) = seen.own

-- a look at what a handle holds, for a view: it shows what is published now, with the costs that it has of its own, unless memory is refused; where
-- there is no level it is as it was
abbrev pub IsLooked : Option BookState → Option Seen → ℕ → Looked → Type 0
IsLooked None before number ended = ended ≡ record { status = status.empty; number = number; held = before }
IsLooked (Some state) before number ended =
    (ended ≡ record { status = status.ok; number = state.published; held = Some (shown_to (own_in before) state) })
    ⊎ (ended ≡ record { status = status.no_memory; number = number; held = before })

-- a view was copied into a handle: that holds what the other one shows, with the costs that it has of its own, unless memory is refused; where there is
-- no view nothing was done
abbrev pub IsCopied : Option Seen → Option Seen → Option Seen → ℕ → Type 0
IsCopied None before after ended = (ended ≡ status.empty) × (after ≡ before)
IsCopied (Some seen) before after ended = ((ended ≡ status.ok) × (after ≡ Some seen)) ⊎ ((ended ≡ status.no_memory) × (after ≡ before))

-- a view was given costs: where there is one it has them, unless memory is refused
abbrev pub IsGiven : Option Seen → List ℕ → Option Seen → ℕ → Type 0
IsGiven None costs after ended = (ended ≡ status.empty) × (after ≡ None)
IsGiven (Some seen) costs after ended =
    ((ended ≡ status.ok) × (after ≡ Some (seen_at costs seen))) ⊎ ((ended ≡ status.no_memory) × (after ≡ Some seen))

-- numbers were handed over as its costs: where they are costs it was given them, else nothing was done
pub record IsCosted (before : Option Seen) (costs : List ℕ) (after : Option Seen) (ended : ℕ) : Type 0 where
  pub given : AreCosts costs → IsGiven before costs after ended
  pub refused : (AreCosts costs → ⊥) → (ended ≡ status.out_of_range) × (after ≡ before)
