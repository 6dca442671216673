-- Looking at kinds over the border: a view is brought up to what one kind shows, and a kind is counted.
use Rattle.std.specs.Prelude.{◌≡◌, ℕ, List, slice_get, Option, Some, None}
use Rattle.build_queue.specs.BookState.{BookState}
use Rattle.nav_handle.specs.Answers.{EndsSo}
use Rattle.nav_handle.specs.Statuses as status
use Rattle.nav_handle.specs.Views.{Seen}
use Rattle.nav_handle.specs.declared.wire.NavdCounts.{NavdCounts}
use Rattle.nav_ffi.specs.Counts.{AreCounted}
use Rattle.nav_ffi.specs.Viewing.{IsLooked, Looked}

-- a look at a kind is one at its level; where there is no such kind, a number was out of its limits
abbrev pub IsKindLooked : Option BookState → Option Seen → ℕ → Looked → Type 0
IsKindLooked None before number ended = ended ≡ record { status = status.out_of_range; number = number; held = before }
IsKindLooked (Some state) before number ended = IsLooked (Some state) before number ended

-- a look at a kind of what a handle holds
abbrev pub AreLooked : Option (List BookState) → ℕ → Option Seen → ℕ → Looked → Type 0
AreLooked None kind before number ended = ended ≡ record { status = status.empty; number = number; held = before }
AreLooked (Some states) kind before number ended = IsKindLooked (slice_get states kind) before number ended

-- counts of a kind of what a handle holds, likewise
abbrev pub IsKindCounted : Option BookState → NavdCounts → NavdCounts → ℕ → Type 0
IsKindCounted None before after ended = EndsSo status.out_of_range before after ended
IsKindCounted (Some state) before after ended = AreCounted (Some state) before after ended

abbrev pub AreKindsCounted : Option (List BookState) → ℕ → NavdCounts → NavdCounts → ℕ → Type 0
AreKindsCounted None kind before after ended = EndsSo status.empty before after ended
AreKindsCounted (Some states) kind before after ended = IsKindCounted (slice_get states kind) before after ended
