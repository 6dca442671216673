-- Prisms: which columns share area with a convex base, and which have their middles in it. All is in sixteenths of a cell.
use Rattle.std.specs.Prelude.{ℕ, zero, suc, ◌+◌, ◌*◌, ◌≤◌, ℤ, pos, negsuc, ◌-ℤ◌, ◌*ℤ◌, ◌≤ℤ◌, ◌<ℤ◌, int_lt, int_le, Bool, ◌&&◌, if◌then◌else◌, List, length, map, take, All, EachIndex}
use Rattle.std.specs.List.{fold, list_all, range_with_len}
use Rattle.std.specs.Int.{int_min, int_max, int_div_euclid}
use Rattle.nav_base.specs.declared.point.Point.{Point}
use Rattle.nav_base.specs.Point.{from_to, cross_of, orient_of}
use Rattle.nav_base.specs.Convex.{IsStrictlyConvex, corner_at, place_after}
use Rattle.nav_ground.specs.declared.prism.PrismBase.{PrismBase}

-- the corners of a base, counterclockwise
abbrev pub corners_of : PrismBase → List Point
corners_of base = take base.count base.corners

-- the corner after the one at a place, and after the last the first
abbrev pub next_corner : List Point → ℕ → Point
next_corner corners i = corner_at corners (place_after (length corners) i)

-- the middle of a column
abbrev pub middle_of : ℕ → ℕ → Point
middle_of x z = record { x = pos (16 * x + 8); z = pos (16 * z + 8) }

-- the corner of a column that lies farthest to the left of a walk from a to b
abbrev pub far_corner : Point → Point → ℕ → ℕ → Point
far_corner a b x z = record {
  x = pos (16 * x + (if int_lt b.z a.z then 16 else 0));
  z = pos (16 * z + (if int_lt a.x b.x then 16 else 0));
}

-- where that corner, and where the middle lies, seen from the side that begins at a place: positive to its left, 0 on its line
abbrev pub far_turn : List Point → ℕ → ℕ → ℕ → ℤ
far_turn corners x z i = orient_of (corner_at corners i) (next_corner corners i) (far_corner (corner_at corners i) (next_corner corners i) x z)

abbrev pub middle_turn : List Point → ℕ → ℕ → ℕ → ℤ
middle_turn corners x z i = orient_of (corner_at corners i) (next_corner corners i) (middle_of x z)

-- the least and the greatest of the corners along an axis
abbrev pub least_along : (Point → ℤ) → List Point → ℤ
least_along axis corners = fold int_min (axis (corner_at corners 0)) (map axis corners)

abbrev pub greatest_along : (Point → ℤ) → List Point → ℤ
greatest_along axis corners = fold int_max (axis (corner_at corners 0)) (map axis corners)

-- a column has a part between two numbers along an axis; to touch one of them is none
pub record IsReached (low high : ℤ) (column : ℕ) : Type 0 where
  pub after : low <ℤ pos (16 * column + 16)
  pub before : pos (16 * column) <ℤ high

-- the first and the last of these columns: a sixteenth of the lesser number, rounded down, and of the greater one, rounded up, less 1
abbrev pub first_column : ℤ → ℤ
first_column low = int_div_euclid low (pos 16)

abbrev pub last_column : ℤ → ℤ
last_column high = int_div_euclid (high -ℤ pos 1) (pos 16)

-- a column shares area with the box of the corners
pub record IsInBox (corners : List Point) (x z : ℕ) : Type 0 where
  pub across : IsReached (least_along (λ (p : Point). p.x) corners) (greatest_along (λ (p : Point). p.x) corners) x
  pub along : IsReached (least_along (λ (p : Point). p.z) corners) (greatest_along (λ (p : Point). p.z) corners) z

-- a column shares area with a base: with the box of its corners, and a part of the column lies to the left of each side
pub record SharesArea (corners : List Point) (x z : ℕ) : Type 0 where
  pub box : IsInBox corners x z
  pub sides : EachIndex corners (λ i. pos 0 <ℤ far_turn corners x z i)

-- the middle of a column lies in a base or on its rim
pub record HoldsMiddle (corners : List Point) (x z : ℕ) : Type 0 where
  pub box : IsInBox corners x z
  pub sides : EachIndex corners (λ i. pos 0 ≤ℤ middle_turn corners x z i)

-- what stops agents, with the area 0, covers each column with which it shares area, so that nothing leaks through it; what sets an area
-- covers the columns whose middles it holds
abbrev pub IsUnderBase : ℕ → List Point → ℕ → ℕ → Type 0
IsUnderBase zero corners x z = SharesArea corners x z
IsUnderBase (suc area) corners x z = HoldsMiddle corners x z

-- the same as tests
abbrev pub is_reached : ℤ → ℤ → ℕ → Bool
is_reached low high column = int_lt low (pos (16 * column + 16)) && int_lt (pos (16 * column)) high

abbrev pub is_in_box : List Point → ℕ → ℕ → Bool
is_in_box corners x z =
    is_reached (least_along (λ (p : Point). p.x) corners) (greatest_along (λ (p : Point). p.x) corners) x
    && is_reached (least_along (λ (p : Point). p.z) corners) (greatest_along (λ (p : Point). p.z) corners) z

abbrev pub is_sharing : List Point → ℕ → ℕ → Bool
is_sharing corners x z = is_in_box corners x z && list_all (λ i. int_lt (pos 0) (far_turn corners x z i)) (range_with_len 0 (length corners))

abbrev pub is_holding : List Point → ℕ → ℕ → Bool
is_holding corners x z = is_in_box corners x z && list_all (λ i. int_le (pos 0) (middle_turn corners x z i)) (range_with_len 0 (length corners))

abbrev pub is_under_base : ℕ → List Point → ℕ → ℕ → Bool
is_under_base zero corners x z = is_sharing corners x z
is_under_base (suc area) corners x z = is_holding corners x z

-- a corner of a prism, and the centre of a disc, lies at most 1024 cells outside a field of 4096 columns
pub record IsNearPoint (p : Point) : Type 0 where
  pub left : negsuc 16383 ≤ℤ p.x
  pub right : p.x ≤ℤ pos 81920
  pub bottom : negsuc 16383 ≤ℤ p.z
  pub top : p.z ≤ℤ pos 81920

-- the corners of a base: 3 to 6, strictly convex, counterclockwise, and each within these limits
pub record IsBase (corners : List Point) : Type 0 where
  pub few : length corners ≤ 6
  pub convex : IsStrictlyConvex corners
  pub near : All IsNearPoint corners

-- a base has such corners, in the first of its six places
pub record IsPrismBase (base : PrismBase) : Type 0 where
  pub count : base.count ≤ 6
  pub corners : IsBase (corners_of base)

-- a point, n times as far from the origin
abbrev pub scaled : ℕ → Point → Point
scaled n p = record { x = pos n *ℤ p.x; z = pos n *ℤ p.z }

-- a point X / n, Z / n of the plane lies to the right of no side of a base, and in the box of its corners
pub record IsPointOf (corners : List Point) (n : ℕ) (at : Point) : Type 0 where
  pub left : (pos n *ℤ least_along (λ (p : Point). p.x) corners) ≤ℤ at.x
  pub right : at.x ≤ℤ (pos n *ℤ greatest_along (λ (p : Point). p.x) corners)
  pub bottom : (pos n *ℤ least_along (λ (p : Point). p.z) corners) ≤ℤ at.z
  pub top : at.z ≤ℤ (pos n *ℤ greatest_along (λ (p : Point). p.z) corners)
  pub sides : EachIndex corners (λ i. pos 0 ≤ℤ cross_of (from_to (corner_at corners i) (next_corner corners i)) (from_to (scaled n (corner_at corners i)) at))

-- such a point lies strictly inside a column
pub record IsInsideColumn (n : ℕ) (at : Point) (x z : ℕ) : Type 0 where
  pub left : pos (n * (16 * x)) <ℤ at.x
  pub right : at.x <ℤ pos (n * (16 * x + 16))
  pub bottom : pos (n * (16 * z)) <ℤ at.z
  pub top : at.z <ℤ pos (n * (16 * z + 16))
