-- Cones that are open: their rays go through the portal. How one goes straight on.
use Rattle.std.proofs.Common.{◌≡◌, ◌≢◌, ◌⊎◌, Bool, true, false, ℤ, pos, ◌+ℤ◌, ◌-ℤ◌, ◌*ℤ◌, ◌≤ℤ◌, ◌<ℤ◌, refl, sym, ap, subst, ◌∙◌, inl, inr, arith}
use Rattle.std.specs.Prelude.{MatchBool, not}
use Rattle.std.specs.Int.Signed.{le_z}
use Rattle.std.proofs.lemmas.Int.{ints}
use Rattle.nav_base.specs.declared.point.Point.{Point}
use Rattle.nav_base.specs.Point.{orient_of}
use Rattle.nav_base.proofs.OrientLaws.{orient_of-end, orient_of-start, orient_of-rotated, orient_of-parts, orient_of-order}
use Rattle.nav_base.proofs.Signs.{product-not_negative, product-not_positive, factor-not_negative}
use Rattle.mesh_types.specs.declared.links.Portal.{Portal}
use Rattle.funnel_path.proofs.SideRules.{negative-weak, positive-weak, signs, around-below, around-above, difference-positive}
use Rattle.funnel_path.proofs.PointLaws.{exchanged-negative, exchanged-not_negative, exchanged-not_positive, exchanged-positive, faces, faces_back, order_in_half_plane}
use Rattle.funnel_path.proofs.FoldLaws.{folds_back}
use Rattle.line_fans.specs.Fans.{Cone, StandsBefore, is_left, is_right}
use Rattle.line_fans.proofs.FanLaws.{straight_with, straight_cone}

-- a cone is open: its root lies behind the portal, its rays go through the portal and part, and each goes through the end on its side or leaves it
-- outside
pub record IsOpen (c : Cone) (portal : Portal) : Type 0 where
  pub narrow : c.whole ≡ false
  pub behind : pos 0 <ℤ orient_of portal.right portal.left c.root
  pub wide : pos 0 <ℤ orient_of c.root c.right c.left
  pub right_of_left : orient_of c.root c.left portal.right <ℤ pos 0
  pub left_of_right : pos 0 <ℤ orient_of c.root c.right portal.left
  pub left_end : ((c.through_left ≡ true) × (c.left ≡ portal.left)) ⊎ ((c.through_left ≡ false) × (pos 0 <ℤ orient_of c.root c.left portal.left))
  pub right_end : ((c.through_right ≡ true) × (c.right ≡ portal.right)) ⊎ ((c.through_right ≡ false) × (orient_of c.root c.right portal.right <ℤ pos 0))

same-at_least : (n : ℤ) → n ≡ pos 0 → pos 0 ≤ℤ n
same-at_least n e = omega (arith, ints)

same-at_most : (n : ℤ) → n ≡ pos 0 → n ≤ℤ pos 0
same-at_most n e = omega (arith, ints)

pub left_of_left : (c : Cone) (portal : Portal) → IsOpen c portal → pos 0 ≤ℤ orient_of c.root c.left portal.left
left_of_left c portal is =
    elim is.left_end [
      | inl through ↦ same-at_least (orient_of c.root c.left portal.left) (ap (λ (p : Point). orient_of c.root c.left p) (sym through.1) ∙ orient_of-end c.root c.left)
      | inr inside ↦ positive-weak (orient_of c.root c.left portal.left) inside.1
    ]

pub right_of_right : (c : Cone) (portal : Portal) → IsOpen c portal → orient_of c.root c.right portal.right ≤ℤ pos 0
right_of_right c portal is =
    elim is.right_end [
      | inl through ↦ same-at_most (orient_of c.root c.right portal.right) (ap (λ (p : Point). orient_of c.root c.right p) (sym through.1) ∙ orient_of-end c.root c.right)
      | inr inside ↦ negative-weak (orient_of c.root c.right portal.right) inside.1
    ]

-- ---- points in front of a root: on the portal's side of it

abbrev pub IsInFront : Portal → Point → Point → Type 0
IsInFront portal root p = orient_of portal.right portal.left p <ℤ orient_of portal.right portal.left root

below : (m n : ℤ) → m ≤ℤ pos 0 → pos 0 <ℤ n → m <ℤ n
below m n h k = omega (arith, ints)

pub front_ahead : (portal : Portal) (root p : Point) → pos 0 <ℤ orient_of portal.right portal.left root → orient_of portal.right portal.left p ≤ℤ pos 0 → IsInFront portal root p
front_ahead portal root p behind ahead = below (orient_of portal.right portal.left p) (orient_of portal.right portal.left root) ahead behind

front_between : (portal : Portal) (root p : Point) → pos 0 ≤ℤ orient_of root portal.right p → pos 0 ≤ℤ orient_of root p portal.left
    → (pos 0 <ℤ orient_of root portal.right p) ⊎ (pos 0 <ℤ orient_of root p portal.left) → IsInFront portal root p
front_between portal root p right left some =
    by (orient_of portal.right portal.left root) (orient_of portal.right portal.left p) (orient_of root portal.right p) (orient_of root p portal.left) (orient_of-parts root portal.right portal.left p) right left some
  where
    by : (w q m n : ℤ) → w ≡ q +ℤ m +ℤ n → pos 0 ≤ℤ m → pos 0 ≤ℤ n → (pos 0 <ℤ m) ⊎ (pos 0 <ℤ n) → q <ℤ w
    by w q m n e h k (inl s) = omega (arith, ints)
    by w q m n e h k (inr s) = omega (arith, ints)

pub front_left : (c : Cone) (portal : Portal) → IsOpen c portal → IsInFront portal c.root c.left
front_left c portal is =
    front_between portal c.root c.left (positive-weak (orient_of c.root portal.right c.left) (exchanged-positive c.root portal.right c.left is.right_of_left)) (left_of_left c portal is)
    (inl (exchanged-positive c.root portal.right c.left is.right_of_left))

pub front_right : (c : Cone) (portal : Portal) → IsOpen c portal → IsInFront portal c.root c.right
front_right c portal is =
    front_between portal c.root c.right (exchanged-not_negative c.root portal.right c.right (right_of_right c portal is)) (positive-weak (orient_of c.root c.right portal.left) is.left_of_right) (inr is.left_of_right)

pub front_right_end : (c : Cone) (portal : Portal) → IsOpen c portal → IsInFront portal c.root portal.right
front_right_end c portal is = front_ahead portal c.root portal.right is.behind (same-at_most (orient_of portal.right portal.left portal.right) (orient_of-start portal.right portal.left))

pub front_left_end : (c : Cone) (portal : Portal) → IsOpen c portal → IsInFront portal c.root portal.left
front_left_end c portal is = front_ahead portal c.root portal.left is.behind (same-at_most (orient_of portal.right portal.left portal.left) (orient_of-end portal.right portal.left))

-- of points in front, what lies to the right of a ray or on it lies to the right of what lies to the left or on it
pub order_weak : (portal : Portal) (a r p q : Point) → IsInFront portal a r → IsInFront portal a p → IsInFront portal a q → orient_of a r p ≤ℤ pos 0 → pos 0 ≤ℤ orient_of a r q → pos 0 ≤ℤ orient_of a p q
order_weak portal a r p q at_r at_p at_q h k =
    by (orient_of portal.right portal.left a -ℤ orient_of portal.right portal.left r) (orient_of a p q) (orient_of portal.right portal.left a -ℤ orient_of portal.right portal.left p) (orient_of a r q)
    (orient_of portal.right portal.left a -ℤ orient_of portal.right portal.left q) (orient_of a r p) (orient_of-order portal.right portal.left a r p q)
    (difference-positive (orient_of portal.right portal.left r) (orient_of portal.right portal.left a) at_r) (difference-positive (orient_of portal.right portal.left p) (orient_of portal.right portal.left a) at_p)
    (difference-positive (orient_of portal.right portal.left q) (orient_of portal.right portal.left a) at_q) k h
  where
    apart : (e m n : ℤ) → e ≡ m -ℤ n → pos 0 ≤ℤ m → n ≤ℤ pos 0 → pos 0 ≤ℤ e
    apart e m n same p q = omega (arith, ints)

    by : (d x u v w y : ℤ) → d *ℤ x ≡ u *ℤ v -ℤ w *ℤ y → pos 0 <ℤ d → pos 0 <ℤ u → pos 0 <ℤ w → pos 0 ≤ℤ v → y ≤ℤ pos 0 → pos 0 ≤ℤ x
    by d x u v w y same p q r s t = factor-not_negative d x p (apart (d *ℤ x) (u *ℤ v) (w *ℤ y) same (product-not_negative u v (positive-weak u q) s) (product-not_positive w y (positive-weak w r) t))

-- ---- the next portal is seen from behind

-- its right end to the left of the right ray or on it, strictly to the right of the portal's left end, and the root not behind it: that is a fold
not_back : (c : Cone) (portal next : Portal) → IsOpen c portal → StandsBefore portal next → next.left ≢ next.right → pos 0 <ℤ orient_of c.root portal.right next.right
    → orient_of c.root c.left next.right <ℤ pos 0 → orient_of next.right next.left c.root ≤ℤ pos 0 → ⊥
not_back c portal next is before wide inside_right open_right front =
    before.apart (folds_back c.root portal next wide (record {
      behind = is.behind;
      inside_right = inside_right;
      inside_left = order_in_half_plane portal.right portal.left c.root c.left next.right portal.left (front_left c portal is) (front_ahead portal c.root next.right is.behind before.right_ahead) (front_left_end c portal is)
          (negative-weak (orient_of c.root c.left next.right) open_right) (left_of_left c portal is) (around-above (orient_of c.root c.left next.right) (orient_of c.root c.left portal.left) open_right (left_of_left c portal is));
      front = front;
      left_ahead = before.left_ahead;
      right_ahead = before.right_ahead;
      left_behind = before.left_behind;
      right_behind = before.right_behind;
    })).folds

-- a portal that is seen between the rays is seen from behind
pub seen_behind : (c : Cone) (portal next : Portal) → IsOpen c portal → StandsBefore portal next → next.left ≢ next.right → pos 0 <ℤ orient_of c.root c.right next.left
    → orient_of c.root c.left next.right <ℤ pos 0 → pos 0 <ℤ orient_of next.right next.left c.root
seen_behind c portal next is before wide open_left open_right = by (side (orient_of c.root c.right next.right))
  where
    side : (n : ℤ) → (n ≤ℤ pos 0) ⊎ (pos 0 <ℤ n)
    side n = elim (signs n) [ inl less ↦ inl (negative-weak n less) | inr (inl none) ↦ inl (same-at_most n none) | inr (inr more) ↦ inr more ]

    behind_or : (pos 0 <ℤ orient_of c.root portal.right next.right) → (orient_of next.right next.left c.root ≤ℤ pos 0) ⊎ (pos 0 <ℤ orient_of next.right next.left c.root) → pos 0 <ℤ orient_of next.right next.left c.root
    behind_or inside (inl front) = absurd (not_back c portal next is before wide inside open_right front)
    behind_or inside (inr behind) = behind

    by : (orient_of c.root c.right next.right ≤ℤ pos 0) ⊎ (pos 0 <ℤ orient_of c.root c.right next.right) → pos 0 <ℤ orient_of next.right next.left c.root
    by (inl right) =
        faces_back c.root next.right next.left
        (order_in_half_plane portal.right portal.left c.root c.right next.right next.left (front_right c portal is) (front_ahead portal c.root next.right is.behind before.right_ahead) (front_ahead portal c.root next.left is.behind before.left_ahead)
        right (positive-weak (orient_of c.root c.right next.left) open_left) (around-below (orient_of c.root c.right next.right) (orient_of c.root c.right next.left) right open_left))
    by (inr left) =
        behind_or
        (order_in_half_plane portal.right portal.left c.root c.right portal.right next.right (front_right c portal is) (front_right_end c portal is) (front_ahead portal c.root next.right is.behind before.right_ahead)
        (right_of_right c portal is) (positive-weak (orient_of c.root c.right next.right) left) (around-below (orient_of c.root c.right portal.right) (orient_of c.root c.right next.right) (right_of_right c portal is) left))
        (side (orient_of next.right next.left c.root))

-- where the right ray leaves the portal's right end outside, and the next portal's left end is not to its left, the right end is to its right
pub right_end_right : (c : Cone) (portal next : Portal) → IsOpen c portal → StandsBefore portal next → next.left ≢ next.right → orient_of c.root c.right portal.right <ℤ pos 0
    → orient_of c.root c.right next.left ≤ℤ pos 0 → orient_of c.root c.left next.right <ℤ pos 0 → orient_of c.root c.right next.right <ℤ pos 0
right_end_right c portal next is before wide outside closed open_right = by (side (orient_of c.root c.right next.right))
  where
    side : (n : ℤ) → (n <ℤ pos 0) ⊎ (pos 0 ≤ℤ n)
    side n = elim (signs n) [ inl less ↦ inl less | inr (inl none) ↦ inr (same-at_least n none) | inr (inr more) ↦ inr (positive-weak n more) ]

    by : (orient_of c.root c.right next.right <ℤ pos 0) ⊎ (pos 0 ≤ℤ orient_of c.root c.right next.right) → orient_of c.root c.right next.right <ℤ pos 0
    by (inl right) = right
    by (inr left) =
        absurd (not_back c portal next is before wide
        (order_in_half_plane portal.right portal.left c.root c.right portal.right next.right (front_right c portal is) (front_right_end c portal is) (front_ahead portal c.root next.right is.behind before.right_ahead)
        (negative-weak (orient_of c.root c.right portal.right) outside) left (around-above (orient_of c.root c.right portal.right) (orient_of c.root c.right next.right) outside left))
        open_right
        (turned (order_weak portal c.root c.right next.left next.right (front_right c portal is) (front_ahead portal c.root next.left is.behind before.left_ahead) (front_ahead portal c.root next.right is.behind before.right_ahead) closed left)))
      where
        turned : pos 0 ≤ℤ orient_of c.root next.left next.right → orient_of next.right next.left c.root ≤ℤ pos 0
        turned h = subst (λ (n : ℤ). n ≤ℤ pos 0) (sym (orient_of-rotated c.root next.right next.left)) (exchanged-not_positive c.root next.right next.left h)

-- ---- straight on

left_test : (n : ℤ) → MatchBool (is_left n) (pos 0 <ℤ n) (n ≤ℤ pos 0)
left_test n = by (le_z n (pos 0)) refl
  where
    by : (t : Bool) → le_z n (pos 0) ≡ t → MatchBool (not t) (pos 0 <ℤ n) (n ≤ℤ pos 0)
    by true e = grind (arith, ints)
    by false e = grind (arith, ints)

right_test : (n : ℤ) → MatchBool (is_right n) (n <ℤ pos 0) (pos 0 ≤ℤ n)
right_test n = by (le_z (pos 0) n) refl
  where
    by : (t : Bool) → le_z (pos 0) n ≡ t → MatchBool (not t) (n <ℤ pos 0) (pos 0 ≤ℤ n)
    by true e = grind (arith, ints)
    by false e = grind (arith, ints)

-- the cone straight on: open at the next portal, and no wider
pub record GoesOn (c child : Cone) (next : Portal) : Type 0 where
  pub opens : IsOpen child next
  pub left_in : pos 0 ≤ℤ orient_of c.root child.left c.left
  pub right_in : pos 0 ≤ℤ orient_of c.root c.right child.right
  pub left_of_right : pos 0 <ℤ orient_of c.root c.right child.left
  pub right_of_left : pos 0 <ℤ orient_of c.root child.right c.left

goes_on : (c : Cone) (portal next : Portal) (is : IsOpen c portal) → pos 0 <ℤ orient_of next.right next.left c.root → pos 0 <ℤ orient_of c.root c.right next.left → orient_of c.root c.left next.right <ℤ pos 0
    → (stays_left stays_right : Bool) → MatchBool stays_left (pos 0 <ℤ orient_of c.root c.left next.left) (orient_of c.root c.left next.left ≤ℤ pos 0)
    → MatchBool stays_right (orient_of c.root c.right next.right <ℤ pos 0) (pos 0 ≤ℤ orient_of c.root c.right next.right) → GoesOn c (straight_with stays_left stays_right next c) next
goes_on c portal next is behind open_left open_right true true p q = record {
  opens = record { narrow = refl; behind = behind; wide = is.wide; right_of_left = open_right; left_of_right = open_left; left_end = inr (refl, p); right_end = inr (refl, q) };
  left_in = same-at_least (orient_of c.root c.left c.left) (orient_of-end c.root c.left);
  right_in = same-at_least (orient_of c.root c.right c.right) (orient_of-end c.root c.right);
  left_of_right = is.wide;
  right_of_left = is.wide;
}
goes_on c portal next is behind open_left open_right true false p q = record {
  opens = record { narrow = refl; behind = behind; wide = exchanged-positive c.root next.right c.left open_right; right_of_left = open_right; left_of_right = faces c.root next.right next.left behind; left_end = inr (refl, p); right_end = inl (refl, refl) };
  left_in = same-at_least (orient_of c.root c.left c.left) (orient_of-end c.root c.left);
  right_in = q;
  left_of_right = is.wide;
  right_of_left = exchanged-positive c.root next.right c.left open_right;
}
goes_on c portal next is behind open_left open_right false true p q = record {
  opens = record { narrow = refl; behind = behind; wide = open_left; right_of_left = exchanged-negative c.root next.left next.right (faces c.root next.right next.left behind); left_of_right = open_left; left_end = inl (refl, refl); right_end = inr (refl, q) };
  left_in = exchanged-not_negative c.root next.left c.left p;
  right_in = same-at_least (orient_of c.root c.right c.right) (orient_of-end c.root c.right);
  left_of_right = open_left;
  right_of_left = is.wide;
}
goes_on c portal next is behind open_left open_right false false p q = record {
  opens = record {
    narrow = refl;
    behind = behind;
    wide = faces c.root next.right next.left behind;
    right_of_left = exchanged-negative c.root next.left next.right (faces c.root next.right next.left behind);
    left_of_right = faces c.root next.right next.left behind;
    left_end = inl (refl, refl);
    right_end = inl (refl, refl);
  };
  left_in = exchanged-not_negative c.root next.left c.left p;
  right_in = q;
  left_of_right = open_left;
  right_of_left = exchanged-positive c.root next.right c.left open_right;
}

pub straight_goes_on : (c : Cone) (portal next : Portal) → IsOpen c portal → StandsBefore portal next → next.left ≢ next.right → pos 0 <ℤ orient_of c.root c.right next.left
    → orient_of c.root c.left next.right <ℤ pos 0 → GoesOn c (straight_cone next c) next
straight_goes_on c portal next is before wide open_left open_right =
    goes_on c portal next is (seen_behind c portal next is before wide open_left open_right) open_left open_right (is_left (orient_of c.root c.left next.left)) (is_right (orient_of c.root c.right next.right))
    (left_test (orient_of c.root c.left next.left)) (right_test (orient_of c.root c.right next.right))
