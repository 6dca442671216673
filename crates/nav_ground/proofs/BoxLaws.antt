-- Laws of the box of a base's corners: it holds each corner, reaches some of them, and its window is the columns with a part in it.
use Rattle.std.proofs.Common.{◌≡◌, ℕ, ◌+◌, ◌*◌, ◌<◌, ◌≤◌, ◌↔◌, ℤ, pos, negsuc, ◌-ℤ◌, ◌≤ℤ◌, ◌<ℤ◌, List, [], ◌∷◌, length, map, take, get_or, refl, sym, ap, subst, ◌∙◌, inl, inr, Bool, true, arith, to_z, of_z, w32}
use Rattle.std.specs.Prelude.{All}
use Rattle.std.specs.Int.{int_min, int_max, int_div_euclid}
use Rattle.std.specs.List.{fold}
use Rattle.std.proofs.lemmas.Bool.Decides.{nat_tests}
use Rattle.std.proofs.lemmas.Int.{ints, by_lt_z, fold-int_min_bounds, fold-int_max_bounds, fold-int_min_reached, fold-int_max_reached}
use Rattle.std.proofs.lemmas.List.{map_more, get_or-map, length-map}
use Rattle.std.proofs.lemmas.List.Sums.{fold_push}
use Rattle.std.proofs.lemmas.List.Elements.{All-map, All-contains}
use Rattle.nav_base.specs.declared.point.Point.{Point}
use Rattle.nav_base.specs.Point.{cross_of, orient_of}
use Rattle.nav_base.specs.Convex.{IsStrictlyConvex, corner_at, place_after}
use Rattle.nav_base.proofs.Polynomials.{at, number, equal}
use Rattle.nav_base.proofs.PointTerms.{orient_term}
use Rattle.nav_ground.specs.declared.prism.CornerBox.{CornerBox}
use Rattle.nav_ground.specs.Prisms.{least_along, greatest_along, first_column, last_column, IsReached, IsInBox, IsNearPoint, IsBase}
use Rattle.nav_ground.specs.CornerBoxes.{box_of}
use Rattle.nav_ground.specs.Shapes.{box_window, prism_window}
use Rattle.nav_ground.specs.Tiling.{IsInWindow}

abbrev origin : Point
origin = record { x = pos 0; z = pos 0 }

-- the columns from a number on, and up to one
from_low : (low : ℤ) (x : ℕ) → first_column low ≤ℤ pos x → low <ℤ pos (16 * x + 16)
from_low (pos n) x h = omega (arith, ints)
from_low (negsuc n) x h = omega (arith, ints)

from_low' : (low : ℤ) (x : ℕ) → low <ℤ pos (16 * x + 16) → first_column low ≤ℤ pos x
from_low' (pos n) x h = omega (arith, ints)
from_low' (negsuc n) x h = omega (arith, ints)

to_quotient : (high : ℤ) (x : ℕ) → pos x ≤ℤ int_div_euclid high (pos 16) → pos (16 * x) ≤ℤ high
to_quotient (pos n) x h = omega (arith, ints)
to_quotient (negsuc n) x h = omega (arith, ints)

to_quotient' : (high : ℤ) (x : ℕ) → pos (16 * x) ≤ℤ high → pos x ≤ℤ int_div_euclid high (pos 16)
to_quotient' (pos n) x h = omega (arith, ints)
to_quotient' (negsuc n) x h = omega (arith, ints)

less_one : (a b : ℤ) → a ≤ℤ (b -ℤ pos 1) → a <ℤ b
less_one a b h = omega (arith, ints)

less_one' : (a b : ℤ) → a <ℤ b → a ≤ℤ (b -ℤ pos 1)
less_one' a b h = omega (arith, ints)

-- the window of a box is the columns that it reaches
pub box_reach : (x0 x1 z0 z1 : ℤ) (x z : ℕ) → IsInWindow (box_window x0 x1 z0 z1) x z ↔ (IsReached x0 x1 x × IsReached z0 z1 z)
box_reach x0 x1 z0 z1 x z = (
  λ (h : IsInWindow (box_window x0 x1 z0 z1) x z). (
    record { after = from_low x0 x h.x_least; before = less_one _ x1 (to_quotient (x1 -ℤ pos 1) x h.x_most) },
    record { after = from_low z0 z h.z_least; before = less_one _ z1 (to_quotient (z1 -ℤ pos 1) z h.z_most) },
  ),
  λ (h : IsReached x0 x1 x × IsReached z0 z1 z). record {
    x_least = from_low' x0 x h.0.after;
    x_most = to_quotient' (x1 -ℤ pos 1) x (less_one' _ x1 h.0.before);
    z_least = from_low' z0 z h.1.after;
    z_most = to_quotient' (z1 -ℤ pos 1) z (less_one' _ z1 h.1.before);
  },
)

pub corners_reach : (corners : List Point) (x z : ℕ) → IsInWindow (prism_window corners) x z ↔ IsInBox corners x z
corners_reach corners x z =
    let both =
    box_reach (least_along (λ (p : Point). p.x) corners) (greatest_along (λ (p : Point). p.x) corners)
    (least_along (λ (p : Point). p.z) corners) (greatest_along (λ (p : Point). p.z) corners) x z in
    (λ h. let parts = both.0 h in record { across = parts.0; along = parts.1 }, λ h. both.1 (h.across, h.along))

-- a quotient is not less than that of a lesser number, and lies between those of its limits
quotient_kept : (a b : ℤ) → a ≤ℤ b → int_div_euclid a (pos 16) ≤ℤ int_div_euclid b (pos 16)
quotient_kept (pos m) (pos n) h = omega (arith, ints)
quotient_kept (pos m) (negsuc n) h = absurd (omega (arith, ints))
quotient_kept (negsuc m) (pos n) h = omega (arith, ints)
quotient_kept (negsuc m) (negsuc n) h = omega (arith, ints)

-- a box that is not empty has a window that is not
pub columns_some : (low high : ℤ) → low <ℤ high → first_column low ≤ℤ last_column high
columns_some low high h = quotient_kept low (high -ℤ pos 1) (less_one' low high h)

pub quotient_near : (a : ℤ) → negsuc 32768 ≤ℤ a → a ≤ℤ pos 98304 → (negsuc 2048 ≤ℤ int_div_euclid a (pos 16)) × (int_div_euclid a (pos 16) ≤ℤ pos 6144)
quotient_near (pos n) low high = (omega (arith, ints), omega (arith, ints))
quotient_near (negsuc n) low high = (omega (arith, ints), omega (arith, ints))

-- each corner lies between the least and the greatest
pub least_bounds : (axis : Point → ℤ) (corners : List Point) (i : ℕ) (d : Point) → i < length corners → least_along axis corners ≤ℤ axis (get_or corners i d)
least_bounds axis corners i d there =
    let all = (fold-int_min_bounds (axis (corner_at corners 0)) (map axis corners) (least_along axis corners) refl).1 in
    subst (λ (n : ℤ). least_along axis corners ≤ℤ n) (get_or-map axis corners i d (axis d) there) (all i (axis d) (omega (arith, length-map corners axis, there)))

pub greatest_bounds : (axis : Point → ℤ) (corners : List Point) (i : ℕ) (d : Point) → i < length corners → axis (get_or corners i d) ≤ℤ greatest_along axis corners
greatest_bounds axis corners i d there =
    let all = (fold-int_max_bounds (axis (corner_at corners 0)) (map axis corners) (greatest_along axis corners) refl).1 in
    subst (λ (n : ℤ). n ≤ℤ greatest_along axis corners) (get_or-map axis corners i d (axis d) there) (all i (axis d) (omega (arith, length-map corners axis, there)))

-- what holds of each corner holds of the least and of the greatest
pub least_kept : (P : ℤ → Type 0) (axis : Point → ℤ) (corners : List Point) → 0 < length corners → All (λ (p : Point). P (axis p)) corners → P (least_along axis corners)
least_kept P axis corners some each =
    elim (fold-int_min_reached (axis (corner_at corners 0)) (map axis corners) (least_along axis corners) refl) [
      | inl is ↦ subst P (sym is) (each 0 origin some)
      | inr has ↦ All-contains P (map axis corners) (least_along axis corners) (All-map P axis corners each) has
    ]

pub greatest_kept : (P : ℤ → Type 0) (axis : Point → ℤ) (corners : List Point) → 0 < length corners → All (λ (p : Point). P (axis p)) corners → P (greatest_along axis corners)
greatest_kept P axis corners some each =
    elim (fold-int_max_reached (axis (corner_at corners 0)) (map axis corners) (greatest_along axis corners) refl) [
      | inl is ↦ subst P (sym is) (each 0 origin some)
      | inr has ↦ All-contains P (map axis corners) (greatest_along axis corners) (All-map P axis corners each) has
    ]

-- ---- the box of a base is not empty

-- three points on a line along an axis make no turn
flat_x : (v p q r : ℤ) → orient_of (record { x = v; z = p }) (record { x = v; z = q }) (record { x = v; z = r }) ≡ pos 0
unfolding cross_of orient_of
flat_x v p q r =
    equal (v ∷ p ∷ q ∷ r ∷ []) (orient_term (record { x = at 0; z = at 1 }) (record { x = at 0; z = at 2 }) (record { x = at 0; z = at 3 })) (number (pos 0)) refl

flat_z : (v p q r : ℤ) → orient_of (record { x = p; z = v }) (record { x = q; z = v }) (record { x = r; z = v }) ≡ pos 0
unfolding cross_of orient_of
flat_z v p q r =
    equal (v ∷ p ∷ q ∷ r ∷ []) (orient_term (record { x = at 1; z = at 0 }) (record { x = at 2; z = at 0 }) (record { x = at 3; z = at 0 })) (number (pos 0)) refl

no_turn_x : (a b c : Point) (v : ℤ) → a.x ≡ v → b.x ≡ v → c.x ≡ v → orient_of a b c ≡ pos 0
no_turn_x a b c v ea eb ec =
    (λ i. orient_of (record { x = ea i; z = a.z }) (record { x = eb i; z = b.z }) (record { x = ec i; z = c.z })) ∙ flat_x v a.z b.z c.z

no_turn_z : (a b c : Point) (v : ℤ) → a.z ≡ v → b.z ≡ v → c.z ≡ v → orient_of a b c ≡ pos 0
no_turn_z a b c v ea eb ec =
    (λ i. orient_of (record { x = a.x; z = ea i }) (record { x = b.x; z = eb i }) (record { x = c.x; z = ec i })) ∙ flat_z v a.x b.x c.x

second_place : (count : ℕ) → 3 ≤ count → place_after count 0 ≡ 1
second_place count enough = grind (arith, nat_tests)

-- the first three corners turn to the left
pub first_turn : (corners : List Point) → IsStrictlyConvex corners → pos 0 <ℤ orient_of (corner_at corners 0) (corner_at corners 1) (corner_at corners 2)
first_turn corners convex =
    let second = second_place (length corners) convex.enough in
    subst (λ (n : ℕ). pos 0 <ℤ orient_of (corner_at corners 0) (corner_at corners n) (corner_at corners 2)) second
    (convex.left 0 (omega (arith, convex.enough)) 2 (omega (arith, convex.enough)) (omega arith) (omega (arith, second)))

between : (low high n : ℤ) → high ≤ℤ low → low ≤ℤ n → n ≤ℤ high → n ≡ low
between low high n none least most = omega (arith, ints)

not_turned : (n : ℤ) → n ≡ pos 0 → pos 0 <ℤ n → ⊥
not_turned n is more = omega (arith, ints)

same_along : (axis : Point → ℤ) (corners : List Point) (i : ℕ) → greatest_along axis corners ≤ℤ least_along axis corners → i < length corners
    → axis (corner_at corners i) ≡ least_along axis corners
same_along axis corners i none there = between _ _ _ none (least_bounds axis corners i origin there) (greatest_bounds axis corners i origin there)

pub some_across : (corners : List Point) → IsStrictlyConvex corners → least_along (λ (p : Point). p.x) corners <ℤ greatest_along (λ (p : Point). p.x) corners
some_across corners convex =
    by_lt_z (least_along (λ (p : Point). p.x) corners) (greatest_along (λ (p : Point). p.x) corners) (λ more. more)
    (λ none. absurd (not_turned _
    (no_turn_x (corner_at corners 0) (corner_at corners 1) (corner_at corners 2) (least_along (λ (p : Point). p.x) corners)
    (same_along (λ (p : Point). p.x) corners 0 none (omega (arith, convex.enough)))
    (same_along (λ (p : Point). p.x) corners 1 none (omega (arith, convex.enough)))
    (same_along (λ (p : Point). p.x) corners 2 none (omega (arith, convex.enough))))
    (first_turn corners convex)))

pub some_along : (corners : List Point) → IsStrictlyConvex corners → least_along (λ (p : Point). p.z) corners <ℤ greatest_along (λ (p : Point). p.z) corners
some_along corners convex =
    by_lt_z (least_along (λ (p : Point). p.z) corners) (greatest_along (λ (p : Point). p.z) corners) (λ more. more)
    (λ none. absurd (not_turned _
    (no_turn_z (corner_at corners 0) (corner_at corners 1) (corner_at corners 2) (least_along (λ (p : Point). p.z) corners)
    (same_along (λ (p : Point). p.z) corners 0 none (omega (arith, convex.enough)))
    (same_along (λ (p : Point). p.z) corners 1 none (omega (arith, convex.enough)))
    (same_along (λ (p : Point). p.z) corners 2 none (omega (arith, convex.enough))))
    (first_turn corners convex)))

-- ---- the box of a base lies in or near the largest field

pub record IsNearNumber (n : ℤ) : Type 0 where
  pub low : negsuc 16383 ≤ℤ n
  pub high : n ≤ℤ pos 81920

across_near : (p : Point) → IsNearPoint p → IsNearNumber p.x
across_near p near = record { low = near.left; high = near.right }

along_near : (p : Point) → IsNearPoint p → IsNearNumber p.z
along_near p near = record { low = near.bottom; high = near.top }

pub record IsNearBox (corners : List Point) : Type 0 where
  pub left : IsNearNumber (least_along (λ (p : Point). p.x) corners)
  pub right : IsNearNumber (greatest_along (λ (p : Point). p.x) corners)
  pub bottom : IsNearNumber (least_along (λ (p : Point). p.z) corners)
  pub top : IsNearNumber (greatest_along (λ (p : Point). p.z) corners)

pub box_near : (corners : List Point) → IsBase corners → IsNearBox corners
box_near corners base =
    let some : 0 < length corners = omega (arith, base.convex.enough) in
    let xs : All (λ (p : Point). IsNearNumber p.x) corners = λ i d there. across_near (get_or corners i d) (base.near i d there) in
    let zs : All (λ (p : Point). IsNearNumber p.z) corners = λ i d there. along_near (get_or corners i d) (base.near i d there) in
    record {
      left = least_kept IsNearNumber (λ (p : Point). p.x) corners some xs;
      right = greatest_kept IsNearNumber (λ (p : Point). p.x) corners some xs;
      bottom = least_kept IsNearNumber (λ (p : Point). p.z) corners some zs;
      top = greatest_kept IsNearNumber (λ (p : Point). p.z) corners some zs;
    }

-- a column with a part below a number of the largest field lies in it
below_last : (high : ℤ) (x : ℕ) → high ≤ℤ pos 81920 → pos (16 * x) <ℤ high → x < 5120
below_last high x most before = omega (arith, ints)

pub in_box_near : (corners : List Point) (x z : ℕ) → IsBase corners → IsInBox corners x z → (x < 5120) × (z < 5120)
in_box_near corners x z base inside =
    let near = box_near corners base in (
      below_last (greatest_along (λ (p : Point). p.x) corners) x near.right.high inside.across.before,
      below_last (greatest_along (λ (p : Point). p.z) corners) z near.top.high inside.along.before,
    )

-- ---- corner by corner

pub least-more : (axis : Point → ℤ) (corners : List Point) (i : ℕ) (d : Point) (first : ℤ) → i < length corners
    → fold int_min first (map axis (take (i + 1) corners)) ≡ int_min (fold int_min first (map axis (take i corners))) (axis (get_or corners i d))
least-more axis corners i d first there = ap (fold int_min first) (map_more axis corners i d there) ∙ fold_push int_min first (map axis (take i corners)) (axis (get_or corners i d))

pub greatest-more : (axis : Point → ℤ) (corners : List Point) (i : ℕ) (d : Point) (first : ℤ) → i < length corners
    → fold int_max first (map axis (take (i + 1) corners)) ≡ int_max (fold int_max first (map axis (take i corners))) (axis (get_or corners i d))
greatest-more axis corners i d first there = ap (fold int_max first) (map_more axis corners i d there) ∙ fold_push int_max first (map axis (take i corners)) (axis (get_or corners i d))

-- the box of all corners
pub whole_box : (corners so_far : List Point) (low high : Point) → so_far ≡ corners
    → low.x ≡ fold int_min (corner_at corners 0).x (map (λ (p : Point). p.x) so_far)
    → low.z ≡ fold int_min (corner_at corners 0).z (map (λ (p : Point). p.z) so_far)
    → high.x ≡ fold int_max (corner_at corners 0).x (map (λ (p : Point). p.x) so_far)
    → high.z ≡ fold int_max (corner_at corners 0).z (map (λ (p : Point). p.z) so_far)
    → record { low = low; high = high } ≡ box_of corners
whole_box corners so_far low high all left bottom right top =
    let first : Point = corner_at corners 0 in
    let left' = left ∙ ap (λ (ps : List Point). fold int_min first.x (map (λ (p : Point). p.x) ps)) all in
    let bottom' = bottom ∙ ap (λ (ps : List Point). fold int_min first.z (map (λ (p : Point). p.z) ps)) all in
    let right' = right ∙ ap (λ (ps : List Point). fold int_max first.x (map (λ (p : Point). p.x) ps)) all in
    let top' = top ∙ ap (λ (ps : List Point). fold int_max first.z (map (λ (p : Point). p.z) ps)) all in
    λ i. record { low = record { x = left' i; z = bottom' i }; high = record { x = right' i; z = top' i } }

-- a number of the largest field, as it is in 32 bits
pub near_read : (n : ℤ) → negsuc 16383 ≤ℤ n → n ≤ℤ pos 81920 → to_z w32 (of_z w32 n) ≡ n
near_read n low high = omega (arith, ints)

reached_read : (low high : ℤ) (x : ℕ) (r : Bool) → IsNearNumber low → IsNearNumber high
    → (r ≡ true) ↔ IsReached (to_z w32 (of_z w32 low)) (to_z w32 (of_z w32 high)) x → (r ≡ true) ↔ IsReached low high x
reached_read low high x r near near' tells =
    subst (λ (n : ℤ). (r ≡ true) ↔ IsReached low n x) (near_read high near'.low near'.high)
    (subst (λ (n : ℤ). (r ≡ true) ↔ IsReached n (to_z w32 (of_z w32 high)) x) (near_read low near.low near.high) tells)

-- what the code tells of a column and the box that it found
pub told_box : (corners : List Point) (found : CornerBox) (x z : ℕ) (r s : Bool) → IsBase corners → found ≡ box_of corners
    → (r ≡ true) ↔ IsReached (to_z w32 (of_z w32 found.low.x)) (to_z w32 (of_z w32 found.high.x)) x
    → (s ≡ true) ↔ IsReached (to_z w32 (of_z w32 found.low.z)) (to_z w32 (of_z w32 found.high.z)) z
    → r ≡ true → (s ≡ true) ↔ IsInBox corners x z
told_box corners found x z r s base is across along told =
    let near = box_near corners base in
    let across' = reached_read _ _ x r near.left near.right
    (subst (λ (b : CornerBox). (r ≡ true) ↔ IsReached (to_z w32 (of_z w32 b.low.x)) (to_z w32 (of_z w32 b.high.x)) x) is across) in
    let along' = reached_read _ _ z s near.bottom near.top
    (subst (λ (b : CornerBox). (s ≡ true) ↔ IsReached (to_z w32 (of_z w32 b.low.z)) (to_z w32 (of_z w32 b.high.z)) z) is along) in
    (λ h. record { across = across'.0 told; along = along'.0 h }, λ inside. along'.1 inside.along)

lower : (n : ℤ) → negsuc 16383 ≤ℤ n → negsuc 32767 ≤ℤ n
lower n h = omega (arith, ints)

-- the greatest of the corners are not far below 0
pub high_enough : (corners : List Point) (found : CornerBox) → IsBase corners → found ≡ box_of corners
    → (negsuc 32767 ≤ℤ found.high.x) × (negsuc 32767 ≤ℤ found.high.z)
high_enough corners found base is =
    let near = box_near corners base in
    subst (λ (b : CornerBox). (negsuc 32767 ≤ℤ b.high.x) × (negsuc 32767 ≤ℤ b.high.z)) (sym is) (lower _ near.right.low, lower _ near.top.low)
