-- Laws of touching: the test tells which tiles a shape touches, and a shape covers no cell of a tile that it does not touch.
use Rattle.std.proofs.Common.{◌≡◌, ℕ, ℤ, pos, negsuc, ◌+◌, ◌*◌, ◌-◌, ◌/◌, ◌%◌, ◌<◌, ◌≤◌, ◌↔◌, true, inl, inr, arith}
use Rattle.std.specs.Prelude.{◌+ℤ◌, ◌-ℤ◌, ◌≤ℤ◌, ◌<ℤ◌, int_le, min}
use Rattle.std.specs.Int.{div_ceil}
use Rattle.std.proofs.Math.Nat.{mod-lt}
use Rattle.std.proofs.lemmas.Bool.{and_parts, and_from, cases_lt}
use Rattle.std.proofs.lemmas.Int.{ints}
use Rattle.nav_ground.specs.declared.setting.Setting.{Setting}
use Rattle.nav_ground.specs.declared.cell.Window.{Window}
use Rattle.nav_ground.specs.declared.shape.Shape.{Shape}
use Rattle.nav_ground.specs.declared.shape.Shape.TheVariants.{Block, Cylinder, AreaBlock, AreaCylinder, Prism, Disc}
use Rattle.nav_ground.specs.Limits.{IsSetting, IsBox, IsRound, IsShape}
use Rattle.nav_ground.specs.Prisms.{corners_of, first_column, last_column}
use Rattle.nav_ground.specs.Shapes.{Covers, bounds_of, box_window}
use Rattle.nav_ground.specs.Tiling.{tiles_in_row, tile_rows, tile_count, corner_x, corner_z, tile_window, widened, margin_of, IsInWindow}
use Rattle.nav_ground.specs.Touching.{Touches, are_meeting, are_overlapping, touch_window, is_touching}
use Rattle.nav_ground.proofs.Places.{begins_inside, some_columns, row_is}
use Rattle.nav_ground.proofs.BoxLaws.{IsNearNumber, box_near, columns_some, quotient_near, some_across, some_along}
use Rattle.nav_ground.proofs.ShapeLaws.{covered_in_bounds}

-- the order of signed numbers as a test
le_test : (a b c : ℤ) → a ≤ℤ b → b ≤ℤ c → int_le a c ≡ true
le_test a b c below above = grind (arith, ints)

no_more : (a b : ℤ) → int_le a b ≡ true → a ≤ℤ b
no_more a b h = grind (arith, ints)

-- two rectangles with a column in common meet
meeting : (a b : Window) (x z : ℕ) → IsInWindow a x z → IsInWindow b x z → are_meeting a b ≡ true
meeting a b x z in_a in_b =
    and_from _ _ (and_from _ _ (le_test a.x0 (pos x) b.x1 in_a.x_least in_b.x_most) (le_test b.x0 (pos x) a.x1 in_b.x_least in_a.x_most))
    (and_from _ _ (le_test a.z0 (pos z) b.z1 in_a.z_least in_b.z_most) (le_test b.z0 (pos z) a.z1 in_b.z_least in_a.z_most))

-- a number in two ranges
record IsInBoth (a0 a1 b0 b1 : ℤ) : Type 0 where
  at : ℕ
  a_least : a0 ≤ℤ pos at
  a_most : pos at ≤ℤ a1
  b_least : b0 ≤ℤ pos at
  b_most : pos at ≤ℤ b1

-- of two ranges that overlap and are not empty, the later beginning is in both
in_both : (a0 a1 : ℤ) (b0 b1 : ℕ) → a0 ≤ℤ a1 → b0 ≤ b1 → a0 ≤ℤ pos b1 → pos b0 ≤ℤ a1 → IsInBoth a0 a1 (pos b0) (pos b1)
in_both (negsuc n) a1 b0 b1 some_a some_b left right =
    record { at = b0; a_least = grind (arith, ints); a_most = right; b_least = grind (arith, ints); b_most = grind (arith, ints) }
in_both (pos n) a1 b0 b1 some_a some_b left right = elim (cases_lt n b0) [
  | inl before ↦ record { at = b0; a_least = grind (arith, ints); a_most = right; b_least = grind (arith, ints); b_most = grind (arith, ints) }
  | inr after ↦ record { at = n; a_least = grind (arith, ints); a_most = some_a; b_least = grind (arith, ints); b_most = left }
]

-- a rectangle that holds a column, were there columns below 0 too
record IsSome (window : Window) : Type 0 where
  x : window.x0 ≤ℤ window.x1
  z : window.z0 ≤ℤ window.z1

-- the bounds of a shape are such
range_some : (first last : ℕ) → first ≤ last → pos first ≤ℤ pos last
range_some first last h = grind (arith, ints)

reach_some : (c r : ℕ) → (pos (div_ceil c 2) -ℤ pos (r + 1)) ≤ℤ pos (c / 2 + r)
reach_some c r = omega (arith, ints)

round_some : (c : ℤ) (r : ℕ) → 1 ≤ r → (c -ℤ pos r) <ℤ (c +ℤ pos r)
round_some c r some = omega (arith, ints)

bounds_some : (shape : Shape) → IsShape shape → IsSome (bounds_of shape)
bounds_some (Block x0 x1 y0 y1 z0 z1) limits = record { x = range_some x0 x1 limits.x; z = range_some z0 z1 limits.z }
bounds_some (Cylinder cx cz r y0 y1) limits = record { x = reach_some cx r; z = reach_some cz r }
bounds_some (AreaBlock area x0 x1 y0 y1 z0 z1) (area', limits) = record { x = range_some x0 x1 limits.x; z = range_some z0 z1 limits.z }
bounds_some (AreaCylinder area cx cz r y0 y1) limits = record { x = reach_some cx r; z = reach_some cz r }
bounds_some (Prism base area y0 y1) limits =
    let convex = limits.base_rules.corners.convex in
    record { x = columns_some _ _ (some_across (corners_of base) convex); z = columns_some _ _ (some_along (corners_of base) convex) }
bounds_some (Disc cx cz r area y0 y1) limits = record { x = columns_some _ _ (round_some cx r limits.r_least); z = columns_some _ _ (round_some cz r limits.r_least) }

-- and lie in or near the largest field
abbrev IsColumn : ℤ → Type 0
IsColumn x = (pos 0 ≤ℤ (x +ℤ pos 4096)) × (x ≤ℤ pos 8191)

pub record IsNearField (window : Window) : Type 0 where
  pub x0 : (pos 0 ≤ℤ (window.x0 +ℤ pos 4096)) × (window.x0 ≤ℤ pos 8191)
  pub x1 : (pos 0 ≤ℤ (window.x1 +ℤ pos 4096)) × (window.x1 ≤ℤ pos 8191)
  pub z0 : (pos 0 ≤ℤ (window.z0 +ℤ pos 4096)) × (window.z0 ≤ℤ pos 8191)
  pub z1 : (pos 0 ≤ℤ (window.z1 +ℤ pos 4096)) × (window.z1 ≤ℤ pos 8191)

-- a number from which such a column comes
record IsBetween (n : ℤ) : Type 0 where
  low : negsuc 32767 ≤ℤ n
  high : n ≤ℤ pos 98304

column_from : (x : ℤ) → negsuc 2048 ≤ℤ x → pos 0 ≤ℤ (x +ℤ pos 4096)
column_from x low = omega (arith, ints)

column_to : (x : ℤ) → x ≤ℤ pos 6144 → x ≤ℤ pos 8191
column_to x high = omega (arith, ints)

number_near : (x : ℕ) → x ≤ 1023 → IsColumn (pos x)
number_near x small = (omega (arith, ints), omega (arith, ints))

first_near : (c r : ℕ) → c ≤ 2048 → r ≤ 1023 → IsColumn (pos (div_ceil c 2) -ℤ pos (r + 1))
first_near c r centre small = (omega (arith, ints), omega (arith, ints))

last_near : (c r : ℕ) → c ≤ 2048 → r ≤ 1023 → IsColumn (pos (c / 2 + r))
last_near c r centre small = (omega (arith, ints), omega (arith, ints))

block_near : (x0 x1 y0 y1 z0 z1 : ℕ) → IsBox x0 x1 y0 y1 z0 z1 → IsNearField (bounds_of (Block x0 x1 y0 y1 z0 z1))
block_near x0 x1 y0 y1 z0 z1 limits = record {
  x0 = number_near x0 (omega (arith, limits.x, limits.x_most));
  x1 = number_near x1 limits.x_most;
  z0 = number_near z0 (omega (arith, limits.z, limits.z_most));
  z1 = number_near z1 limits.z_most;
}

round_near : (cx cz r y0 y1 : ℕ) → IsRound cx cz r y0 y1 → IsNearField (bounds_of (Cylinder cx cz r y0 y1))
round_near cx cz r y0 y1 limits = record {
  x0 = first_near cx r limits.cx_most limits.r_most;
  x1 = last_near cx r limits.cx_most limits.r_most;
  z0 = first_near cz r limits.cz_most limits.r_most;
  z1 = last_near cz r limits.cz_most limits.r_most;
}

-- a sixteenth of a number in or near the largest field
first_near' : (low : ℤ) → negsuc 32767 ≤ℤ low → low ≤ℤ pos 98304 → IsColumn (first_column low)
first_near' low least most =
    let near = quotient_near low (lower low least) most in (column_from _ near.0, column_to _ near.1)
  where
    lower : (n : ℤ) → negsuc 32767 ≤ℤ n → negsuc 32768 ≤ℤ n
    lower n h = omega (arith, ints)

last_near' : (high : ℤ) → negsuc 32767 ≤ℤ high → high ≤ℤ pos 98304 → IsColumn (last_column high)
last_near' high least most =
    let near = quotient_near (high -ℤ pos 1) (omega (arith, ints)) (omega (arith, ints)) in (column_from _ near.0, column_to _ near.1)

box_window_near : (x0 x1 z0 z1 : ℤ) → IsBetween x0 → IsBetween x1 → IsBetween z0 → IsBetween z1 → IsNearField (box_window x0 x1 z0 z1)
box_window_near x0 x1 z0 z1 hx0 hx1 hz0 hz1 = record {
  x0 = first_near' x0 hx0.low hx0.high;
  x1 = last_near' x1 hx1.low hx1.high;
  z0 = first_near' z0 hz0.low hz0.high;
  z1 = last_near' z1 hz1.low hz1.high;
}

number_between : (n : ℤ) → IsNearNumber n → IsBetween n
number_between n near = record { low = down n near.low; high = up n near.high }
  where
    down : (n : ℤ) → negsuc 16383 ≤ℤ n → negsuc 32767 ≤ℤ n
    down n h = omega (arith, ints)

    up : (n : ℤ) → n ≤ℤ pos 81920 → n ≤ℤ pos 98304
    up n h = omega (arith, ints)

less_between : (c : ℤ) (r : ℕ) → negsuc 16383 ≤ℤ c → c ≤ℤ pos 81920 → r ≤ 16384 → IsBetween (c -ℤ pos r)
less_between c r low high small = record { low = omega (arith, ints); high = omega (arith, ints) }

more_between : (c : ℤ) (r : ℕ) → negsuc 16383 ≤ℤ c → c ≤ℤ pos 81920 → r ≤ 16384 → IsBetween (c +ℤ pos r)
more_between c r low high small = record { low = omega (arith, ints); high = omega (arith, ints) }

pub bounds_near : (shape : Shape) → IsShape shape → IsNearField (bounds_of shape)
bounds_near (Block x0 x1 y0 y1 z0 z1) limits = block_near x0 x1 y0 y1 z0 z1 limits
bounds_near (Cylinder cx cz r y0 y1) limits = round_near cx cz r y0 y1 limits
bounds_near (AreaBlock area x0 x1 y0 y1 z0 z1) (area', limits) = block_near x0 x1 y0 y1 z0 z1 limits
bounds_near (AreaCylinder area cx cz r y0 y1) (area', limits) = round_near cx cz r y0 y1 limits
bounds_near (Prism base area y0 y1) limits =
    let near = box_near (corners_of base) limits.base_rules.corners in
    box_window_near _ _ _ _ (number_between _ near.left) (number_between _ near.right) (number_between _ near.bottom) (number_between _ near.top)
bounds_near (Disc cx cz r area y0 y1) limits =
    box_window_near _ _ _ _
    (less_between cx r limits.centre.left limits.centre.right limits.r_most) (more_between cx r limits.centre.left limits.centre.right limits.r_most)
    (less_between cz r limits.centre.bottom limits.centre.top limits.r_most) (more_between cz r limits.centre.bottom limits.centre.top limits.r_most)

-- they are such with more columns on each side, too
wide_some : (a b : ℤ) (margin : ℕ) → a ≤ℤ b → (a -ℤ pos margin) ≤ℤ (b +ℤ pos margin)
wide_some a b margin some = omega (arith, ints)

touch_some : (setting : Setting) (shape : Shape) → IsShape shape → IsSome (touch_window setting shape)
touch_some setting shape limits =
    let some = bounds_some shape limits in
    record {
      x = wide_some (bounds_of shape).x0 (bounds_of shape).x1 (margin_of setting) some.x;
      z = wide_some (bounds_of shape).z0 (bounds_of shape).z1 (margin_of setting) some.z;
    }

-- the columns of a tile along an axis
side_some : (place tile edge : ℕ) → 1 ≤ tile → place < div_ceil edge tile → place * tile ≤ min edge (place * tile + tile) - 1
side_some place tile edge some there = let inside = begins_inside place tile edge some there in omega (arith, inside)

-- a shape and a tile that meet have a column in common
common : (setting : Setting) (tile : ℕ) (shape : Shape) → IsSetting setting → tile < tile_count setting → IsShape shape
    → is_touching setting tile shape ≡ true → Touches setting tile shape
common setting tile shape limits there rules' is =
    let window = touch_window setting shape in
    let square = tile_window setting tile in
    let parts = and_parts (are_overlapping window.x0 window.x1 square.x0 square.x1) _ is in
    let xs = and_parts (int_le window.x0 square.x1) _ parts.0 in
    let zs = and_parts (int_le window.z0 square.z1) _ parts.1 in
    let columns = some_columns (tiles_in_row setting) (tile_rows setting) tile there in
    let side : 1 ≤ setting.tile = omega (arith, limits.tile_least) in
    let some = touch_some setting shape rules' in
    let x = in_both window.x0 window.x1 (corner_x setting tile) _ some.x
    (side_some (tile % tiles_in_row setting) setting.tile setting.width side (mod-lt tile columns)) (no_more _ _ xs.0) (no_more _ _ xs.1) in
    let z = in_both window.z0 window.z1 (corner_z setting tile) _ some.z
    (side_some (tile / tiles_in_row setting) setting.tile setting.depth side (row_is tile (tiles_in_row setting) (tile_rows setting) columns there))
    (no_more _ _ zs.0) (no_more _ _ zs.1) in
    record {
      x = x.at;
      z = z.at;
      in_reach = record { x_least = x.a_least; x_most = x.a_most; z_least = z.a_least; z_most = z.a_most };
      in_tile = record { x_least = x.b_least; x_most = x.b_most; z_least = z.b_least; z_most = z.b_most };
    }

-- the test tells which tiles a shape touches
pub is_touching_Touches : (setting : Setting) (tile : ℕ) (shape : Shape) → IsSetting setting → tile < tile_count setting → IsShape shape
    → (is_touching setting tile shape ≡ true) ↔ Touches setting tile shape
is_touching_Touches setting tile shape limits there rules' = (
  common setting tile shape limits there rules',
  λ touched. meeting (touch_window setting shape) (tile_window setting tile) touched.x touched.z touched.in_reach touched.in_tile,
)

-- a rectangle that has a column meets each rectangle to which that column comes once that is widened, where it is widened by as much itself
reach_low : (a b : ℤ) (x margin : ℕ) → a ≤ℤ pos x → pos x ≤ℤ (b +ℤ pos margin) → int_le (a -ℤ pos margin) b ≡ true
reach_low a b x margin least most = grind (arith, ints)

reach_high : (a b : ℤ) (x margin : ℕ) → (a -ℤ pos margin) ≤ℤ pos x → pos x ≤ℤ b → int_le a (b +ℤ pos margin) ≡ true
reach_high a b x margin least most = grind (arith, ints)

meeting_near : (a b : Window) (margin x z : ℕ) → IsInWindow a x z → IsInWindow (widened b margin) x z → are_meeting (widened a margin) b ≡ true
meeting_near a b margin x z in_a in_b =
    and_from _ _ (and_from _ _ (reach_low a.x0 b.x1 x margin in_a.x_least in_b.x_most) (reach_high b.x0 a.x1 x margin in_b.x_least in_a.x_most))
    (and_from _ _ (reach_low a.z0 b.z1 z margin in_a.z_least in_b.z_most) (reach_high b.z0 a.z1 z margin in_b.z_least in_a.z_most))

-- a shape that covers a cell of a tile, or one so near it as agents keep from obstacles, touches the tile
pub covered_touches : (setting : Setting) (tile : ℕ) (shape : Shape) (x z floor : ℕ)
    → IsInWindow (widened (tile_window setting tile) (margin_of setting)) x z → Covers shape x z floor → is_touching setting tile shape ≡ true
covered_touches setting tile shape x z floor near covered =
    meeting_near (bounds_of shape) (tile_window setting tile) (margin_of setting) x z (covered_in_bounds shape x z floor covered) near

-- a widened rectangle has the columns of the rectangle
less_low : (a : ℤ) (x margin : ℕ) → a ≤ℤ pos x → (a -ℤ pos margin) ≤ℤ pos x
less_low a x margin h = omega (arith, ints)

more_high : (b : ℤ) (x margin : ℕ) → pos x ≤ℤ b → pos x ≤ℤ (b +ℤ pos margin)
more_high b x margin h = omega (arith, ints)

pub inside_widened : (window : Window) (margin x z : ℕ) → IsInWindow window x z → IsInWindow (widened window margin) x z
inside_widened window margin x z inside = record {
  x_least = less_low window.x0 x margin inside.x_least;
  x_most = more_high window.x1 x margin inside.x_most;
  z_least = less_low window.z0 z margin inside.z_least;
  z_most = more_high window.z1 z margin inside.z_most;
}
