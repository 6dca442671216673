-- The table of the obstacles that are alive: their numbers with their shapes, in order of number.
use Rattle.std.specs.Prelude.{◌≡◌, ℕ, ◌<◌, Bool, false, not, ◌==◌, if◌then◌else◌, List, [], ◌∷◌, ◌++◌, length, map, filter, All, AllPairs, Option, Some}
use Rattle.std.specs.List.{list_any}
use Rattle.std.specs.Option.{option_map_or}
use Rattle.nav_ground.specs.declared.history.Entry.{Entry}
use Rattle.nav_ground.specs.declared.history.Reply.{Reply}
use Rattle.nav_ground.specs.declared.history.Reply.TheVariants.{Added, Removed, Full, Dead}
use Rattle.nav_ground.specs.declared.history.Request.{Request}
use Rattle.nav_ground.specs.declared.history.Request.TheVariants.{Add, Remove}
use Rattle.nav_ground.specs.declared.shape.Shape.{Shape}
use Rattle.nav_ground.specs.History.{alive_after, shape_of}
use Rattle.build_queue.specs.declared.live.Live.{Live}

-- the row of the obstacle with a number
abbrev pub is_row_of : ℕ → Live → Bool
is_row_of number row = row.number == number

-- the rows of the other obstacles
abbrev pub rows_without : ℕ → List Live → List Live
rows_without number rows = filter (λ (row : Live). not (is_row_of number row)) rows

-- what a request is answered that gets the entry with a number
abbrev pub reply_among : ℕ → ℕ → List Live → Request → Reply
reply_among limit number rows (Add shape) = if length rows == limit then Full limit else Added number
reply_among limit number rows (Remove other) = if list_any (is_row_of other) rows then Removed else Dead other

-- the rows after that request
abbrev pub rows_after : ℕ → ℕ → List Live → Request → List Live
rows_after limit number rows (Add shape) = if length rows == limit then rows else rows ++ record { number = number; shape = shape } ∷ []
rows_after limit number rows (Remove other) = rows_without other rows

-- the numbers rise
abbrev pub IsRising : List Live → Type 0
IsRising rows = AllPairs (λ (a b : Live). a.number < b.number) rows

-- the numbers of the rows
abbrev pub numbers_of : List Live → List ℕ
numbers_of rows = map (λ (row : Live). row.number) rows

-- the rows are those of the obstacles that are alive after a history, each with its shape
pub record IsLiveTable (history : List Entry) (rows : List Live) : Type 0 where
  pub numbers : numbers_of rows ≡ alive_after history (length history)
  pub shapes : All (λ (row : Live). shape_of history row.number ≡ Some row.shape) rows

-- the shapes of the rows
abbrev pub shapes_in : List Live → List Shape
shapes_in rows = map (λ (row : Live). row.shape) rows

-- at most one shape came or went: what a test keeps of the shapes has changed only where it passes that shape
abbrev pub IsChangedBy : Option Shape → List Live → List Live → Type 0
IsChangedBy changed before after =
    (p : Shape → Bool) → option_map_or p changed false ≡ false → filter p (shapes_in after) ≡ filter p (shapes_in before)
