-- What the entries of a history tell from a place on: names for the loop that goes back through them.
use Rattle.std.specs.Prelude.{◌≡◌, ℕ, ◌+◌, ◌-◌, ◌<◌, ◌≤◌, Bool, false, List, drop, take, get_or, length, Option, Some, slice_get, option_and_then, Contains}
use Rattle.std.specs.List.{list_any}
use Rattle.nav_ground.specs.declared.history.Entry.{Entry}
use Rattle.nav_ground.specs.declared.shape.Shape.{Shape}
use Rattle.nav_ground.specs.History.{is_removal_of}
use Rattle.tile_changes.specs.Telling.{told_by}

-- the obstacle with a number is removed by an entry from a place on, before b
abbrev pub is_removed_from : List Entry → ℕ → ℕ → ℕ → Bool
is_removed_from history b place number = list_any (is_removal_of number) (drop place (take b history))

-- the shape that the entry at a place tells
abbrev pub told_at : List Entry → ℕ → ℕ → ℕ → Option Shape
told_at history a b place =
    option_and_then (told_by history a (is_removed_from history b (place + 1) (place + 1))) (slice_get history place)

-- a shape is told by some entry from a place on, before b
pub record IsToldFrom (history : List Entry) (a b place : ℕ) (shape : Shape) : Type 0 where
  pub at : ℕ
  pub least : place ≤ at
  pub most : at < b
  pub told : told_at history a b at ≡ Some shape

-- one mark for each entry from a up to b: whether the obstacle with its number is removed by an entry from a place on, before b
pub record AreLaterRemovals (history : List Entry) (a b place : ℕ) (marks : List Bool) : Type 0 where
  pub count : length marks ≡ b - a
  pub are : (i : ℕ) → i < b - a → get_or marks i false ≡ is_removed_from history b place (a + i + 1)

-- the shapes that entries from a place on tell, in whatever order
pub record AreTold (history : List Entry) (a b place : ℕ) (shapes : List Shape) : Type 0 where
  pub each : (shape : Shape) → Contains shapes shape → IsToldFrom history a b place shape
  pub all : (shape : Shape) → IsToldFrom history a b place shape → Contains shapes shape
