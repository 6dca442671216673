-- The history of requests: which obstacles are alive after it, and what the next request is answered.
use Rattle.std.specs.Prelude.{◌≡◌, ℕ, zero, suc, ◌+◌, ◌≤◌, Bool, false, true, not, ◌&&◌, ◌==◌, if◌then◌else◌, List, length, take, drop, filter, Option, Some, None, slice_get, option_and_then, ⊤, All}
use Rattle.std.specs.List.{list_any, filter_map, range_with_len}
use Rattle.std.specs.Option.{option_map_or}
use Rattle.nav_ground.specs.declared.shape.Shape.{Shape}
use Rattle.nav_ground.specs.declared.history.Entry.{Entry}
use Rattle.nav_ground.specs.declared.history.Reply.{Reply}
use Rattle.nav_ground.specs.declared.history.Reply.TheVariants.{Added, Removed, Full, Dead}
use Rattle.nav_ground.specs.declared.history.Request.{Request}
use Rattle.nav_ground.specs.declared.history.Request.TheVariants.{Add, Remove}
use Rattle.nav_ground.specs.Limits.{IsShape}

-- how many entries a history may have
abbrev pub history_limit : ℕ
history_limit = 262144

-- a request's shape, if it has one, is within its limits
abbrev pub IsRequest : Request → Type 0
IsRequest (Add shape) = IsShape shape
IsRequest (Remove number) = ⊤

-- the shape that a request asks for
abbrev pub shape_in : Request → Option Shape
shape_in (Add shape) = Some shape
shape_in (Remove number) = None

-- a request asks to remove the obstacle with a number
abbrev pub is_removing : ℕ → Request → Bool
is_removing number (Add shape) = false
is_removing number (Remove other) = other == number

-- the reply says that the obstacle was added
abbrev pub is_added : Reply → Bool
is_added (Added number) = true
is_added _ = false

-- the reply says that the obstacle was removed
abbrev pub is_removed : Reply → Bool
is_removed Removed = true
is_removed _ = false

-- the entry removed the obstacle with a number
abbrev pub is_removal_of : ℕ → Entry → Bool
is_removal_of number entry = is_removing number entry.request && is_removed entry.reply

-- the entry with a number; entries are numbered from 1
abbrev pub entry_at : List Entry → ℕ → Option Entry
entry_at history zero = None
entry_at history (suc place) = slice_get history place

-- the obstacle with a number is alive after the first k entries: the one of them with that number added it, and no later one removed it
abbrev pub is_alive : List Entry → ℕ → ℕ → Bool
is_alive history k number = option_map_or (λ (entry : Entry). is_added entry.reply) (entry_at (take k history) number) false
    && not (list_any (is_removal_of number) (drop number (take k history)))

-- the numbers of the obstacles that are alive after the first k entries, rising
abbrev pub alive_after : List Entry → ℕ → List ℕ
alive_after history k = filter (is_alive history k) (range_with_len 1 k)

-- the shape of the obstacle with a number
abbrev pub shape_of : List Entry → ℕ → Option Shape
shape_of history number = option_and_then (λ (entry : Entry). shape_in entry.request) (entry_at history number)

-- the shapes that are alive after the first k entries, in order of number
abbrev pub shapes_alive : List Entry → ℕ → List Shape
shapes_alive history k = filter_map (shape_of history) (alive_after history k)

-- what a request is answered after a history: an add is added under its entry's number unless as many obstacles are alive as may be;
-- a remove of a number that is alive removes it, and any other number is dead
abbrev pub reply_to : ℕ → List Entry → Request → Reply
reply_to limit history (Add shape) =
    if length (alive_after history (length history)) == limit then Full limit else Added (length history + 1)
reply_to limit history (Remove number) =
    if list_any (λ alive. alive == number) (alive_after history (length history)) then Removed else Dead number

-- each entry's reply is that to its request after the entries before it
abbrev pub IsWellReplied : ℕ → List Entry → Type 0
IsWellReplied limit history = (k : ℕ) (entry : Entry) → slice_get history k ≡ Some entry
    → entry.reply ≡ reply_to limit (take k history) entry.request

-- a history: no longer than it may be, its shapes within their limits, and each request answered by the rules
pub record IsHistory (limit : ℕ) (history : List Entry) : Type 0 where
  pub few : length history ≤ history_limit
  pub requests : All (λ (entry : Entry). IsRequest entry.request) history
  pub replies : IsWellReplied limit history
