-- Touching: the tiles that a shape touches, and the shapes of a list that touch a tile.
use Rattle.std.specs.Prelude.{ℕ, ℤ, Bool, ◌&&◌, int_le, List, filter}
use Rattle.nav_ground.specs.declared.setting.Setting.{Setting}
use Rattle.nav_ground.specs.declared.cell.Window.{Window}
use Rattle.nav_ground.specs.declared.shape.Shape.{Shape}
use Rattle.nav_ground.specs.Shapes.{bounds_of}
use Rattle.nav_ground.specs.Tiling.{tile_window, widened, margin_of, IsInWindow}

-- the columns within which a shape can change what is free: its bounds, with what agents keep from obstacles on each side
abbrev pub touch_window : Setting → Shape → Window
touch_window setting shape = widened (bounds_of shape) (margin_of setting)

-- a shape touches a tile where those columns and the tile have one in common
pub record Touches (setting : Setting) (tile : ℕ) (shape : Shape) : Type 0 where
  pub x : ℕ
  pub z : ℕ
  pub in_reach : IsInWindow (touch_window setting shape) x z
  pub in_tile : IsInWindow (tile_window setting tile) x z

-- neither of two ranges begins after the other ends
abbrev pub are_overlapping : ℤ → ℤ → ℤ → ℤ → Bool
are_overlapping a0 a1 b0 b1 = int_le a0 b1 && int_le b0 a1

-- two rectangles overlap along both axes
abbrev pub are_meeting : Window → Window → Bool
are_meeting a b = are_overlapping a.x0 a.x1 b.x0 b.x1 && are_overlapping a.z0 a.z1 b.z0 b.z1

-- the same as a test, for lists of shapes
abbrev pub is_touching : Setting → ℕ → Shape → Bool
is_touching setting tile shape = are_meeting (touch_window setting shape) (tile_window setting tile)

-- the shapes of a list that touch a tile, in order
abbrev pub touching_shapes : Setting → ℕ → List Shape → List Shape
touching_shapes setting tile shapes = filter (is_touching setting tile) shapes
