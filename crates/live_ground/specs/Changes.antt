-- Changes: a field with other spans in the columns of a rectangle, and the tiles whose layers that may change.
use Rattle.std.specs.Prelude.{◌≡◌, ℕ, ◌+◌, pos, ◌≤ℤ◌, ◌<ℤ◌, Bool, not, List, filter, All, AllPairs}
use Rattle.std.specs.List.{range_with_len}
use Rattle.nav_ground.specs.declared.cell.Window.{Window}
use Rattle.nav_ground.specs.declared.field.Span.{Span}
use Rattle.nav_ground.specs.declared.field.Field.{Field}
use Rattle.nav_ground.specs.declared.setting.Setting.{Setting}
use Rattle.nav_ground.specs.Fields.{IsField, IsSpan, IsSpanBefore}
use Rattle.nav_ground.specs.Tiling.{tile_count, tile_window, widened, is_in_window, IsInWindow}
use Rattle.nav_ground.specs.Touching.{are_meeting}
use Rattle.layer_cut.specs.Nearby.{spans_in}

-- a rectangle has a column, and all its columns are columns of the field
pub record IsRectangleIn (field : Field) (window : Window) : Type 0 where
  pub x_least : pos 0 ≤ℤ window.x0
  pub x : window.x0 ≤ℤ window.x1
  pub x_most : window.x1 <ℤ pos field.width
  pub z_least : pos 0 ≤ℤ window.z0
  pub z : window.z0 ≤ℤ window.z1
  pub z_most : window.z1 <ℤ pos field.depth

-- spans that the columns of a rectangle may get: each is one of a field of that size and stands in such a column, and they stand in order
pub record AreSpansFor (field : Field) (window : Window) (spans : List Span) : Type 0 where
  pub each : All (IsSpan field.width field.depth) spans
  pub inside : All (λ (span : Span). IsInWindow window span.x span.z) spans
  pub order : AllPairs IsSpanBefore spans

-- the spans outside a rectangle of columns
abbrev pub spans_outside : Window → List Span → List Span
spans_outside window spans = filter (λ (span : Span). not (is_in_window window span.x span.z)) spans

-- two fields of one size have the same spans outside a rectangle
pub record AreSameOutside (window : Window) (before after : Field) : Type 0 where
  pub width : after.width ≡ before.width
  pub depth : after.depth ≡ before.depth
  pub spans : spans_outside window after.spans ≡ spans_outside window before.spans

-- a field with these spans in the columns of a rectangle, and with the spans as before in all others; its spans stand in order, so that
-- there is one such field alone
pub record IsChangedIn (window : Window) (spans : List Span) (before after : Field) : Type 0 where
  pub inside : spans_in window after.spans ≡ spans
  pub outside : AreSameOutside window before after
  pub rules : IsField after

-- how many columns a change of spans reaches: the agent's radius and two more
abbrev pub reach_of : Setting → ℕ
reach_of setting = setting.agent.radius + 2

-- a tile is in reach of a rectangle: one of its columns lies in it or so near it
abbrev pub is_in_reach : Setting → Window → ℕ → Bool
is_in_reach setting window tile = are_meeting (widened window (reach_of setting)) (tile_window setting tile)

-- the tiles in reach of a rectangle, in order
abbrev pub reached_tiles : Setting → Window → List ℕ
reached_tiles setting window = filter (is_in_reach setting window) (range_with_len 0 (tile_count setting))
