-- Laws of prisms: no point of a base leaks, what it holds shares area with it, and the tests tell both.
use Rattle.std.proofs.Common.{◌≡◌, ◌≢◌, ℕ, zero, suc, ◌+◌, ◌*◌, ◌<◌, ◌≤◌, ◌↔◌, ℤ, pos, ◌+ℤ◌, ◌-ℤ◌, ◌*ℤ◌, ◌≤ℤ◌, ◌<ℤ◌, Bool, true, false, List, [], ◌∷◌, length, refl, sym, subst, inl, inr, arith}
use Rattle.std.specs.Prelude.{int_lt, int_le, if◌then◌else◌}
use Rattle.std.specs.List.{list_all, range_with_len}
use Rattle.std.proofs.lemmas.Bool.{and_parts, and_from, cases_eq}
use Rattle.std.proofs.lemmas.Bool.Decides.{same_from_decides}
use Rattle.std.proofs.lemmas.Int.{ints, by_lt_z}
use Rattle.nav_base.specs.declared.point.Point.{Point}
use Rattle.nav_base.specs.Point.{from_to, cross_of, orient_of}
use Rattle.nav_base.specs.Convex.{IsStrictlyConvex, corner_at, place_after}
use Rattle.nav_base.proofs.OrientLaws.{orient_of-still}
use Rattle.nav_base.proofs.Polynomials.{at, number, sum, difference, product, equal}
use Rattle.nav_base.proofs.PointTerms.{Place, from_to_term, cross_term, orient_term}
use Rattle.nav_base.proofs.Signs.{product-not_negative, product-positive, factor-positive}
use Rattle.nav_ground.specs.Prisms.{next_corner, middle_of, far_corner, far_turn, middle_turn, least_along, greatest_along, scaled, IsReached, IsInBox, SharesArea, HoldsMiddle, IsUnderBase, IsBase, IsPointOf, IsInsideColumn, is_reached, is_in_box, is_sharing, is_holding, is_under_base}

-- ---- the far corner

-- the gain of the far corner over a point along one axis, for a walk that goes so far along the other
record IsGain (from to gain : ℤ) : Type 0 where
  kept : pos 0 ≤ℤ ((to -ℤ from) *ℤ gain)
  more : from ≢ to → pos 0 <ℤ ((to -ℤ from) *ℤ gain)

turned : (u v : ℤ) → (pos 0 -ℤ u) *ℤ (pos 0 -ℤ v) ≡ u *ℤ v
turned u v = equal (u ∷ v ∷ []) (product (difference (number (pos 0)) (at 0)) (difference (number (pos 0)) (at 1))) (product (at 0) (at 1)) refl

forward : (from to : ℤ) → int_lt from to ≡ true → pos 0 <ℤ (to -ℤ from)
forward from to is = omega (arith, ints)

backward : (from to : ℤ) → int_lt from to ≡ false → pos 0 ≤ℤ (pos 0 -ℤ (to -ℤ from))
backward from to is = omega (arith, ints)

strictly_backward : (from to : ℤ) → int_lt from to ≡ false → from ≢ to → pos 0 <ℤ (pos 0 -ℤ (to -ℤ from))
strictly_backward from to is other =
    by_lt_z to from (λ less. further from to less) (λ rest. absurd (other (same from to is rest)))
  where
    further : (a b : ℤ) → b <ℤ a → pos 0 <ℤ (pos 0 -ℤ (b -ℤ a))
    further a b h = omega (arith, ints)

    same : (a b : ℤ) → int_lt a b ≡ false → a ≤ℤ b → a ≡ b
    same a b h k = omega (arith, ints)

weaken : (n : ℤ) → pos 0 <ℤ n → pos 0 ≤ℤ n
weaken n h = omega (arith, ints)

gain_up : (n z : ℕ) (q : ℤ) → q <ℤ pos (n * (16 * z + 16)) → pos 0 <ℤ (pos n *ℤ pos (16 * z + 16) -ℤ q)
gain_up n z q most = omega (arith, ints)

gain_down : (n z : ℕ) (q : ℤ) → pos (n * (16 * z)) <ℤ q → pos 0 <ℤ (pos 0 -ℤ (pos n *ℤ pos (16 * z + 0) -ℤ q))
gain_down n z q least = omega (arith, ints)

gain : (t : Bool) (from to : ℤ) (n z : ℕ) (q : ℤ) → int_lt from to ≡ t → pos (n * (16 * z)) <ℤ q → q <ℤ pos (n * (16 * z + 16))
    → IsGain from to (pos n *ℤ pos (16 * z + (if t then 16 else 0)) -ℤ q)
gain true from to n z q is least most =
    let up = gain_up n z q most in
    let more = product-positive (to -ℤ from) (pos n *ℤ pos (16 * z + 16) -ℤ q) (forward from to is) up in
    record { kept = weaken _ more; more = λ other. more }
gain false from to n z q is least most =
    let v = pos n *ℤ pos (16 * z + 0) -ℤ q in
    let down = gain_down n z q least in
    record {
      kept = subst (λ (m : ℤ). pos 0 ≤ℤ m) (turned (to -ℤ from) v)
          (product-not_negative (pos 0 -ℤ (to -ℤ from)) (pos 0 -ℤ v) (backward from to is) (weaken _ down));
      more = λ other. subst (λ (m : ℤ). pos 0 <ℤ m) (turned (to -ℤ from) v)
          (product-positive (pos 0 -ℤ (to -ℤ from)) (pos 0 -ℤ v) (strictly_backward from to is other) down);
    }

-- so the far corner lies farther to the left of a walk than a point strictly inside the column, by both gains
gains : (a b far p : Point) (n : ℤ)
    → n *ℤ orient_of a b far
    ≡ (cross_of (from_to a b) (from_to (record { x = n *ℤ a.x; z = n *ℤ a.z }) p) +ℤ (b.x -ℤ a.x) *ℤ (n *ℤ far.z -ℤ p.z)) +ℤ (a.z -ℤ b.z) *ℤ (n *ℤ far.x -ℤ p.x)
unfolding cross_of orient_of
gains a b far p n =
    let a' : Place = record { x = at 1; z = at 2 } in
    let b' : Place = record { x = at 3; z = at 4 } in
    let far' : Place = record { x = at 5; z = at 6 } in
    let p' : Place = record { x = at 7; z = at 8 } in
    let n' = at 0 in
    equal (n ∷ a.x ∷ a.z ∷ b.x ∷ b.z ∷ far.x ∷ far.z ∷ p.x ∷ p.z ∷ []) (product n' (orient_term a' b' far'))
    (sum (sum (cross_term (from_to_term a' b') (from_to_term (record { x = product n' a'.x; z = product n' a'.z }) p'))
    (product (difference b'.x a'.x) (difference (product n' far'.z) p'.z)))
    (product (difference a'.z b'.z) (difference (product n' far'.x) p'.x))) refl

summed : (c g h : ℤ) → pos 0 ≤ℤ c → pos 0 ≤ℤ g → pos 0 ≤ℤ h → (pos 0 <ℤ g) → pos 0 <ℤ ((c +ℤ g) +ℤ h)
summed c g h hc hg hh more = omega (arith, ints)

summed' : (c g h : ℤ) → pos 0 ≤ℤ c → pos 0 ≤ℤ g → pos 0 ≤ℤ h → (pos 0 <ℤ h) → pos 0 <ℤ ((c +ℤ g) +ℤ h)
summed' c g h hc hg hh more = omega (arith, ints)

less_not_same : (a b : ℤ) → a <ℤ b → a ≢ b
less_not_same a b h same = omega (arith, ints)

more_not_same : (a b : ℤ) → b <ℤ a → a ≢ b
more_not_same a b h same = omega (arith, ints)

same_number : (a b : ℤ) → a ≤ℤ b → b ≤ℤ a → a ≡ b
same_number a b h k = omega (arith, ints)

-- two numbers are the same or not
by_same : {P : Type 0} (a b : ℤ) → (a ≡ b → P) → (a ≢ b → P) → P
by_same a b same other =
    by_lt_z a b (λ less. other (less_not_same a b less))
    (λ rest. by_lt_z b a (λ more. other (more_not_same a b more)) (λ rest'. same (same_number a b rest' rest)))

same_point : (a b : Point) → a.x ≡ b.x → a.z ≡ b.z → a ≡ b
same_point a b ex ez = λ i. record { x = ex i; z = ez i }

pub far_left : (a b p : Point) (n x z : ℕ) → 0 < n → a ≢ b → IsInsideColumn n p x z → pos 0 ≤ℤ cross_of (from_to a b) (from_to (scaled n a) p)
    → pos 0 <ℤ orient_of a b (far_corner a b x z)
far_left a b p n x z some other inside side =
    let far = far_corner a b x z in
    let g = gain (int_lt a.x b.x) a.x b.x n z p.z refl inside.bottom inside.top in
    let h = gain (int_lt b.z a.z) b.z a.z n x p.x refl inside.left inside.right in
    factor-positive (pos n) (orient_of a b far) (omega (arith, ints, some))
    (subst (λ (m : ℤ). pos 0 <ℤ m) (sym (gains a b far p (pos n)))
    (by_same a.x b.x
    (λ same. by_same b.z a.z
    (λ same'. absurd (other (same_point a b same (sym same'))))
    (λ other'. summed' _ _ _ side g.kept h.kept (h.more other')))
    (λ other'. summed _ _ _ side g.kept h.kept (g.more other'))))

-- ---- sides of a base

record IsThird (i after count : ℕ) : Type 0 where
  place : ℕ
  there : place < count
  first : place ≢ i
  second : place ≢ after

third : (i after count : ℕ) → 3 ≤ count → IsThird i after count
third i after count enough =
    elim (cases_eq 0 i) [
      | inl here ↦ elim (cases_eq 1 after) [
        | inl next ↦ record { place = 2; there = omega (arith, enough); first = omega (arith, here); second = omega (arith, next) }
        | inr other ↦ record { place = 1; there = omega (arith, enough); first = omega (arith, here); second = other }
      ]
      | inr other ↦ elim (cases_eq 0 after) [
        | inl next ↦ elim (cases_eq 1 i) [
          | inl here ↦ record { place = 2; there = omega (arith, enough); first = omega (arith, here); second = omega (arith, next) }
          | inr other' ↦ record { place = 1; there = omega (arith, enough); first = other'; second = omega (arith, next) }
        ]
        | inr other' ↦ record { place = 0; there = omega (arith, enough); first = other; second = other' }
      ]
    ]

-- the ends of a side are two points
pub two_ends : (corners : List Point) (i : ℕ) → IsStrictlyConvex corners → i < length corners → corner_at corners i ≢ next_corner corners i
two_ends corners i convex there same =
    let other = third i (place_after (length corners) i) (length corners) convex.enough in
    let left = convex.left i there other.place other.there other.first other.second in
    none _ (orient_of-still (corner_at corners i) (corner_at corners other.place))
    (subst (λ (p : Point). pos 0 <ℤ orient_of (corner_at corners i) p (corner_at corners other.place)) (sym same) left)
  where
    none : (n : ℤ) → n ≡ pos 0 → pos 0 <ℤ n → ⊥
    none n is more = omega (arith, ints)

-- ---- no leak

low_reached : (n x : ℕ) (low q : ℤ) → 0 < n → (pos n *ℤ low) ≤ℤ q → q <ℤ pos (n * (16 * x + 16)) → low <ℤ pos (16 * x + 16)
low_reached n x low q some least most =
    lifted (factor-positive (pos n) (pos (16 * x + 16) -ℤ low) (omega (arith, ints, some)) (subst (λ (m : ℤ). pos 0 <ℤ m) spread (apart (pos n *ℤ low) q _ least most)))
  where
    apart : (a b c : ℤ) → a ≤ℤ b → b <ℤ c → pos 0 <ℤ (c -ℤ a)
    apart a b c h k = omega (arith, ints)

    spread : pos (n * (16 * x + 16)) -ℤ (pos n *ℤ low) ≡ pos n *ℤ (pos (16 * x + 16) -ℤ low)
    spread = equal (pos n ∷ pos (16 * x + 16) ∷ low ∷ []) (difference (product (at 0) (at 1)) (product (at 0) (at 2))) (product (at 0) (difference (at 1) (at 2))) refl

    lifted : pos 0 <ℤ (pos (16 * x + 16) -ℤ low) → low <ℤ pos (16 * x + 16)
    lifted h = omega (arith, ints)

high_reached : (n x : ℕ) (high q : ℤ) → 0 < n → q ≤ℤ (pos n *ℤ high) → pos (n * (16 * x)) <ℤ q → pos (16 * x) <ℤ high
high_reached n x high q some most least =
    lifted (factor-positive (pos n) (high -ℤ pos (16 * x)) (omega (arith, ints, some)) (subst (λ (m : ℤ). pos 0 <ℤ m) spread (apart _ q (pos n *ℤ high) least most)))
  where
    apart : (a b c : ℤ) → a <ℤ b → b ≤ℤ c → pos 0 <ℤ (c -ℤ a)
    apart a b c h k = omega (arith, ints)

    spread : (pos n *ℤ high) -ℤ pos (n * (16 * x)) ≡ pos n *ℤ (high -ℤ pos (16 * x))
    spread = equal (pos n ∷ pos (16 * x) ∷ high ∷ []) (difference (product (at 0) (at 2)) (product (at 0) (at 1))) (product (at 0) (difference (at 2) (at 1))) refl

    lifted : pos 0 <ℤ (high -ℤ pos (16 * x)) → pos (16 * x) <ℤ high
    lifted h = omega (arith, ints)

-- a column that a point of a base lies strictly inside shares area with the base
pub reaches : (corners : List Point) (n : ℕ) (p : Point) (x z : ℕ) → IsBase corners → 0 < n → IsPointOf corners n p → IsInsideColumn n p x z
    → SharesArea corners x z
reaches corners n p x z base some point inside = record {
  box = record {
    across = record { after = low_reached n x _ p.x some point.left inside.right; before = high_reached n x _ p.x some point.right inside.left };
    along = record { after = low_reached n z _ p.z some point.bottom inside.top; before = high_reached n z _ p.z some point.top inside.bottom };
  };
  sides = λ i there. far_left (corner_at corners i) (next_corner corners i) p n x z some (two_ends corners i base.convex there) inside (point.sides i there);
}

-- a middle lies strictly inside its column
middle_inside : (x z : ℕ) → IsInsideColumn 1 (middle_of x z) x z
middle_inside x z = record { left = omega (arith, ints); right = omega (arith, ints); bottom = omega (arith, ints); top = omega (arith, ints) }

once : (a b p : Point) → orient_of a b p ≡ cross_of (from_to a b) (from_to (scaled 1 a) p)
unfolding cross_of orient_of
once a b p =
    let a' : Place = record { x = at 0; z = at 1 } in
    let b' : Place = record { x = at 2; z = at 3 } in
    let p' : Place = record { x = at 4; z = at 5 } in
    equal (a.x ∷ a.z ∷ b.x ∷ b.z ∷ p.x ∷ p.z ∷ []) (orient_term a' b' p')
    (cross_term (from_to_term a' b') (from_to_term (record { x = product (number (pos 1)) a'.x; z = product (number (pos 1)) a'.z }) p')) refl

-- a column whose middle a base holds shares area with it
pub both : (corners : List Point) (x z : ℕ) → IsBase corners → HoldsMiddle corners x z → SharesArea corners x z
both corners x z base holds = record {
  box = holds.box;
  sides = λ i there. far_left (corner_at corners i) (next_corner corners i) (middle_of x z) 1 x z (omega arith) (two_ends corners i base.convex there) (middle_inside x z)
      (subst (λ (m : ℤ). pos 0 ≤ℤ m) (once (corner_at corners i) (next_corner corners i) (middle_of x z)) (holds.sides i there));
}

-- ---- the tests

each_tested : (p : ℕ → Bool) (a n : ℕ) → list_all p (range_with_len a n) ≡ true → (i : ℕ) → i < n → p (a + i) ≡ true
each_tested p a zero h i there = absurd (omega arith)
each_tested p a (suc n) h zero there = subst (λ (k : ℕ). p k ≡ true) (omega arith) (and_parts (p a) _ h).0
each_tested p a (suc n) h (suc i) there =
    subst (λ (k : ℕ). p k ≡ true) (omega arith) (each_tested p (a + 1) n (and_parts (p a) _ h).1 i (omega (arith, there)))

tested_each : (p : ℕ → Bool) (a n : ℕ) → ((i : ℕ) → i < n → p (a + i) ≡ true) → list_all p (range_with_len a n) ≡ true
tested_each p a zero each = refl
tested_each p a (suc n) each =
    and_from (p a) _ (subst (λ (k : ℕ). p k ≡ true) (omega arith) (each 0 (omega arith)))
    (tested_each p (a + 1) n (λ i there. subst (λ (k : ℕ). p k ≡ true) (omega arith) (each (suc i) (omega (arith, there)))))

all_places : (p : ℕ → Bool) (P : ℕ → Type 0) (n : ℕ) → ((i : ℕ) → (p i ≡ true) ↔ P i) → (list_all p (range_with_len 0 n) ≡ true) ↔ ((i : ℕ) → i < n → P i)
all_places p P n tells = (
  λ h i there. (tells i).0 (subst (λ (k : ℕ). p k ≡ true) (omega arith) (each_tested p 0 n h i there)),
  λ each. tested_each p 0 n (λ i there. subst (λ (k : ℕ). p k ≡ true) (omega arith) ((tells i).1 (each i there))),
)

lt_tells : (a b : ℤ) → (int_lt a b ≡ true) ↔ (a <ℤ b)
lt_tells a b = (λ h. omega (arith, ints), λ h. grind (arith, ints))

le_tells : (a b : ℤ) → (int_le a b ≡ true) ↔ (a ≤ℤ b)
le_tells a b = (λ h. grind (arith, ints), λ h. grind (arith, ints))

reached_tells : (low high : ℤ) (x : ℕ) → (is_reached low high x ≡ true) ↔ IsReached low high x
reached_tells low high x = (
  λ h. let parts = and_parts (int_lt low (pos (16 * x + 16))) _ h in record { after = (lt_tells _ _).0 parts.0; before = (lt_tells _ _).0 parts.1 },
  λ h. and_from _ _ ((lt_tells _ _).1 h.after) ((lt_tells _ _).1 h.before),
)

box_tells : (corners : List Point) (x z : ℕ) → (is_in_box corners x z ≡ true) ↔ IsInBox corners x z
box_tells corners x z =
    let across = reached_tells (least_along (λ (p : Point). p.x) corners) (greatest_along (λ (p : Point). p.x) corners) x in
    let along = reached_tells (least_along (λ (p : Point). p.z) corners) (greatest_along (λ (p : Point). p.z) corners) z in (
      λ h. let parts = and_parts _ _ h in record { across = across.0 parts.0; along = along.0 parts.1 },
      λ h. and_from _ _ (across.1 h.across) (along.1 h.along),
    )

pub sharing_tells : (corners : List Point) (x z : ℕ) → (is_sharing corners x z ≡ true) ↔ SharesArea corners x z
sharing_tells corners x z =
    let sides = all_places (λ i. int_lt (pos 0) (far_turn corners x z i)) (λ i. pos 0 <ℤ far_turn corners x z i) (length corners) (λ i. lt_tells (pos 0) (far_turn corners x z i)) in (
      λ h. let parts = and_parts (is_in_box corners x z) _ h in record { box = (box_tells corners x z).0 parts.0; sides = sides.0 parts.1 },
      λ h. and_from _ _ ((box_tells corners x z).1 h.box) (sides.1 h.sides),
    )

pub holding_tells : (corners : List Point) (x z : ℕ) → (is_holding corners x z ≡ true) ↔ HoldsMiddle corners x z
holding_tells corners x z =
    let sides = all_places (λ i. int_le (pos 0) (middle_turn corners x z i)) (λ i. pos 0 ≤ℤ middle_turn corners x z i) (length corners) (λ i. le_tells (pos 0) (middle_turn corners x z i)) in (
      λ h. let parts = and_parts (is_in_box corners x z) _ h in record { box = (box_tells corners x z).0 parts.0; sides = sides.0 parts.1 },
      λ h. and_from _ _ ((box_tells corners x z).1 h.box) (sides.1 h.sides),
    )

pub under_base_tells : (area : ℕ) (corners : List Point) (x z : ℕ) → (is_under_base area corners x z ≡ true) ↔ IsUnderBase area corners x z
under_base_tells zero corners x z = sharing_tells corners x z
under_base_tells (suc area) corners x z = holding_tells corners x z

-- what lies under a base lies in its box
pub under_base_in_box : (area : ℕ) (corners : List Point) (x z : ℕ) → IsUnderBase area corners x z → IsInBox corners x z
under_base_in_box zero corners x z under = under.box
under_base_in_box (suc area) corners x z under = under.box

-- what the code tells where the area is 0, and where it is not
pub told_stopping : (area : ℕ) (corners same : List Point) (x z : ℕ) (r : Bool) → area ≡ 0 → corners ≡ same → (r ≡ true) ↔ SharesArea corners x z
    → r ≡ is_under_base area same x z
told_stopping zero corners same x z r is e tells =
    same_from_decides r (is_sharing same x z) (subst (λ (cs : List Point). (r ≡ true) ↔ SharesArea cs x z) e tells) (sharing_tells same x z)
told_stopping (suc area) corners same x z r is e tells = absurd (omega (arith, is))

pub told_setting : (area : ℕ) (corners same : List Point) (x z : ℕ) (r : Bool) → area ≢ 0 → corners ≡ same → (r ≡ true) ↔ HoldsMiddle corners x z
    → r ≡ is_under_base area same x z
told_setting zero corners same x z r other e tells = absurd (other refl)
told_setting (suc area) corners same x z r other e tells =
    same_from_decides r (is_holding same x z) (subst (λ (cs : List Point). (r ≡ true) ↔ HoldsMiddle cs x z) e tells) (holding_tells same x z)
