-- What one entry of a history tells of the changes, and what a list of shapes touches.
use Rattle.std.specs.Prelude.{◌≡◌, ℕ, Bool, true, not, ◌&&◌, nat_le, List, Option, None, Some, slice_get, if◌then◌else◌}
use Rattle.std.specs.List.{list_any}
use Rattle.nav_ground.specs.declared.history.Entry.{Entry}
use Rattle.nav_ground.specs.declared.history.Request.{Request}
use Rattle.nav_ground.specs.declared.history.Request.TheVariants.{Add, Remove}
use Rattle.nav_ground.specs.declared.setting.Setting.{Setting}
use Rattle.nav_ground.specs.declared.shape.Shape.{Shape}
use Rattle.nav_ground.specs.Touching.{is_touching}
use Rattle.nav_ground.specs.History.{is_added, is_alive, is_removal_of, is_removed, shape_of}

-- an entry that removed an obstacle removed one that was there
pub record RemovesWhatIsThere (history : List Entry) : Type 0 where
  pub each : (place number : ℕ) (entry : Entry) → slice_get history place ≡ Some entry → is_removal_of number entry ≡ true
      → is_alive history place number ≡ true

-- the shape that an entry tells: that which it asks for, where it added the obstacle and no later entry removes it; or that of
-- the obstacle that it removed, where that was added among the first a entries
abbrev pub told_by : List Entry → ℕ → Bool → Entry → Option Shape
told_by history a later entry = by_request entry.request
  where
    by_request : Request → Option Shape
    by_request (Add shape) = if is_added entry.reply && not later then Some shape else None
    by_request (Remove number) = if is_removed entry.reply && nat_le number a then shape_of history number else None

-- some shape of a list touches a tile
abbrev pub is_touched : Setting → List Shape → ℕ → Bool
is_touched setting shapes tile = list_any (is_touching setting tile) shapes
