-- The whole points near a way: they are two, and by how much they are off the place that it has reached.
use Rattle.std.proofs.Common.{◌≡◌, ℕ, ◌-◌, ◌≤◌, ◌<◌, max, false, ℤ, pos, negsuc, ◌+ℤ◌, ◌-ℤ◌, ◌*ℤ◌, ◌≤ℤ◌, ◌<ℤ◌, [], ◌∷◌, w64, of_z, sym, subst, ap, ◌∙◌, refl, inl, inr, arith}
use Rattle.std.specs.Prelude.{◌⊎◌, ◌↔◌}
use Rattle.std.specs.Int.RustNames.{unsigned_abs}
use Rattle.std.proofs.lemmas.Bool.{cases_lt}
use Rattle.std.proofs.lemmas.Int.{ints, by_lt_z}
use Rattle.nav_base.specs.declared.point.Point.{Point}
use Rattle.nav_base.specs.Point.{IsCoordinate}
use Rattle.nav_base.proofs.Polynomials.{at, number, sum, difference, product, equal}
use Rattle.mesh_types.specs.LinkOrder.{is_point_before}
use Rattle.surface_move.specs.declared.nearby.StraightWay.{StraightWay}
use Rattle.surface_move.specs.Moves.{leg_of, IsNear, IsNearAlong}
use Rattle.surface_move.specs.Ways.{IsOffset, IsRounded, IsWay}
use Rattle.surface_move.proofs.Numbers.{one_more, times_le, factor_le, factor_lt, factor_same, small_multiple}

-- the place that is reached along one axis, times the number of all steps
abbrev pub reached_of : (n g : ℕ) → (from to : ℤ) → ℤ
reached_of n g from to = pos n *ℤ from +ℤ pos g *ℤ (to -ℤ from)

-- ---- where it lies

-- the two products of which the code adds it up
pub in_parts : (n g : ℕ) (from to : ℤ) → g ≤ n → pos (n - g) *ℤ from +ℤ pos g *ℤ to ≡ reached_of n g from to
in_parts n g from to within =
    subst (λ (m : ℤ). pos (n - g) *ℤ from +ℤ pos g *ℤ to ≡ m *ℤ from +ℤ pos g *ℤ (to -ℤ from)) (all n g within) (moved (pos (n - g)) (pos g) from to)
  where
    all : (n g : ℕ) → g ≤ n → pos (n - g) +ℤ pos g ≡ pos n
    all n g within = omega (arith, ints)

    moved : (a b from to : ℤ) → a *ℤ from +ℤ b *ℤ to ≡ (a +ℤ b) *ℤ from +ℤ b *ℤ (to -ℤ from)
    moved a b from to =
        equal (a ∷ b ∷ from ∷ to ∷ []) (sum (product (at 0) (at 2)) (product (at 1) (at 3)))
        (sum (product (sum (at 0) (at 1)) (at 2)) (product (at 1) (difference (at 3) (at 2)))) refl

-- between two coordinates it is a place between their bounds
module _ (n g : ℕ) (from to : ℤ) (within : g ≤ n) where
  weighted : (a b c : ℤ) → (a +ℤ b) *ℤ c ≡ a *ℤ c +ℤ b *ℤ c
  weighted a b c = equal (a ∷ b ∷ c ∷ []) (product (sum (at 0) (at 1)) (at 2)) (sum (product (at 0) (at 2)) (product (at 1) (at 2))) refl

  all : pos n ≡ pos (n - g) +ℤ pos g
  all = omega (arith, ints)

  pub reached_low : (c : ℤ) → c ≤ℤ from → c ≤ℤ to → (pos n *ℤ c) ≤ℤ reached_of n g from to
  reached_low c h h' =
      sums _ _ _ _ _ _ (ap (λ (m : ℤ). m *ℤ c) all ∙ weighted (pos (n - g)) (pos g) c) (in_parts n g from to within)
      (times_le (pos (n - g)) c from (omega (arith, ints)) h) (times_le (pos g) c to (omega (arith, ints)) h')
    where
      sums : (x a b y c d : ℤ) → x ≡ a +ℤ b → c +ℤ d ≡ y → a ≤ℤ c → b ≤ℤ d → x ≤ℤ y
      sums x a b y c d e e' h k = omega (arith, ints)

  pub reached_high : (c : ℤ) → from ≤ℤ c → to ≤ℤ c → reached_of n g from to ≤ℤ (pos n *ℤ c)
  reached_high c h h' =
      sums _ _ _ _ _ _ (ap (λ (m : ℤ). m *ℤ c) all ∙ weighted (pos (n - g)) (pos g) c) (in_parts n g from to within)
      (times_le (pos (n - g)) from c (omega (arith, ints)) h) (times_le (pos g) to c (omega (arith, ints)) h')
    where
      sums : (x a b y c d : ℤ) → x ≡ a +ℤ b → c +ℤ d ≡ y → c ≤ℤ a → d ≤ℤ b → y ≤ℤ x
      sums x a b y c d e e' h k = omega (arith, ints)

-- ---- rounded down and up

positive : (n : ℕ) → 1 ≤ n → pos 0 <ℤ pos n
positive n some = omega (arith, ints)

-- rounded numbers lie between the bounds of what is rounded
pub rounded_low : (n : ℕ) (value low : ℤ) (c : ℤ) → 1 ≤ n → value <ℤ (pos n *ℤ low +ℤ pos n) → (pos n *ℤ c) ≤ℤ value → c ≤ℤ low
rounded_low n value low c some above least =
    not_below c low (factor_lt (pos n) c (low +ℤ pos 1) (positive n some) (between (pos n *ℤ c) (pos n *ℤ low) (pos n *ℤ (low +ℤ pos 1)) value (pos n) (one_more (pos n) low) above least))
  where
    between : (x y z v m : ℤ) → z ≡ y +ℤ m → v <ℤ (y +ℤ m) → x ≤ℤ v → x <ℤ z
    between x y z v m e h k = omega (arith, ints)

    not_below : (c low : ℤ) → c <ℤ (low +ℤ pos 1) → c ≤ℤ low
    not_below c low h = omega (arith, ints)

pub rounded_high : (n : ℕ) (value low : ℤ) (c : ℤ) → 1 ≤ n → (pos n *ℤ low) ≤ℤ value → value ≤ℤ (pos n *ℤ c) → low ≤ℤ c
rounded_high n value low c some below most = factor_le (pos n) low c (positive n some) (through _ _ _ below most)
  where
    through : (x y z : ℤ) → x ≤ℤ y → y ≤ℤ z → x ≤ℤ z
    through x y z h k = omega (arith, ints)

pub rounded_higher : (n : ℕ) (value low : ℤ) (c : ℤ) → 1 ≤ n → (pos n *ℤ low) <ℤ value → value ≤ℤ (pos n *ℤ c) → (low +ℤ pos 1) ≤ℤ c
rounded_higher n value low c some below most = next low c (factor_lt (pos n) low c (positive n some) (through _ _ _ below most))
  where
    through : (x y z : ℤ) → x <ℤ y → y ≤ℤ z → x <ℤ z
    through x y z h k = omega (arith, ints)

    next : (a b : ℤ) → a <ℤ b → (a +ℤ pos 1) ≤ℤ b
    next a b h = omega (arith, ints)

-- a whole number is less than 1 away exactly where it is one of the two
pub near_is : (n : ℕ) (value low high : ℤ) → 1 ≤ n → IsRounded (pos n) value low high → (q : ℤ)
    → (unsigned_abs (pos n *ℤ q -ℤ value) < n) ↔ ((q ≡ low) ⊎ (q ≡ high))
near_is n value low high some rounded q = (found, near)
  where
    lower : unsigned_abs (pos n *ℤ q -ℤ value) < n → low ≤ℤ q
    lower less =
        step low q (factor_lt (pos n) low (q +ℤ pos 1) (positive n some) (over _ _ _ _ n (one_more (pos n) q) rounded.below less))
      where
        over : (x y z v : ℤ) (n : ℕ) → z ≡ y +ℤ pos n → x ≤ℤ v → unsigned_abs (y -ℤ v) < n → x <ℤ z
        over x y z v n e h k = omega (arith, ints)

        step : (a b : ℤ) → a <ℤ (b +ℤ pos 1) → a ≤ℤ b
        step a b h = omega (arith, ints)

    upper : unsigned_abs (pos n *ℤ q -ℤ value) < n → q ≤ℤ (low +ℤ pos 1)
    upper less =
        step q low (factor_lt (pos n) q (low +ℤ pos 1 +ℤ pos 1) (positive n some)
        (under _ _ _ _ _ n (one_more (pos n) low) (one_more (pos n) (low +ℤ pos 1)) rounded.above less))
      where
        under : (x y z w v : ℤ) (n : ℕ) → z ≡ y +ℤ pos n → w ≡ z +ℤ pos n → v <ℤ (y +ℤ pos n) → unsigned_abs (x -ℤ v) < n → x <ℤ w
        under x y z w v n e e' h k = omega (arith, ints)

        step : (a b : ℤ) → a <ℤ (b +ℤ pos 1 +ℤ pos 1) → a ≤ℤ (b +ℤ pos 1)
        step a b h = omega (arith, ints)

    two : (a b : ℤ) → a ≤ℤ b → b ≤ℤ (a +ℤ pos 1) → (b ≡ a) ⊎ (b ≡ a +ℤ pos 1)
    two a b h k = by_lt_z a b (λ more. inr (omega (arith, ints))) (λ less. inl (omega (arith, ints)))

    not_more : (x y v : ℤ) (n : ℕ) → x ≡ y +ℤ pos n → v ≡ y → unsigned_abs (x -ℤ v) < n → ⊥
    not_more x y v n e e' less = omega (arith, ints)

    found : unsigned_abs (pos n *ℤ q -ℤ value) < n → (q ≡ low) ⊎ (q ≡ high)
    found less =
        elim (two low q (lower less) (upper less)) [
          | inl same ↦ inl same
          | inr more ↦ elim rounded.up [
            | inl whole ↦ absurd (not_more _ _ value n (ap (λ (m : ℤ). pos n *ℤ m) more ∙ one_more (pos n) low) whole.1 less)
            | inr broken ↦ inr (more ∙ sym broken.0)
          ]
        ]

    near_low : (x v : ℤ) (n : ℕ) → x ≤ℤ v → v <ℤ (x +ℤ pos n) → unsigned_abs (x -ℤ v) < n
    near_low x v n h k = omega (arith, ints)

    near_high : (x y v : ℤ) (n : ℕ) → y ≡ x +ℤ pos n → x <ℤ v → v <ℤ (x +ℤ pos n) → unsigned_abs (y -ℤ v) < n
    near_high x y v n e h k = omega (arith, ints)

    at_low : unsigned_abs (pos n *ℤ low -ℤ value) < n
    at_low = near_low (pos n *ℤ low) value n rounded.below rounded.above

    at_high : unsigned_abs (pos n *ℤ high -ℤ value) < n
    at_high =
        elim rounded.up [
          | inl whole ↦ subst (λ (m : ℤ). unsigned_abs (pos n *ℤ m -ℤ value) < n) (sym whole.0) at_low
          | inr broken ↦ subst (λ (m : ℤ). unsigned_abs (pos n *ℤ m -ℤ value) < n) (sym broken.0)
              (near_high (pos n *ℤ low) (pos n *ℤ (low +ℤ pos 1)) value n (one_more (pos n) low) broken.1 rounded.above)
        ]

    near : (q ≡ low) ⊎ (q ≡ high) → unsigned_abs (pos n *ℤ q -ℤ value) < n
    near (inl same) = subst (λ (m : ℤ). unsigned_abs (pos n *ℤ m -ℤ value) < n) (sym same) at_low
    near (inr same) = subst (λ (m : ℤ). unsigned_abs (pos n *ℤ m -ℤ value) < n) (sym same) at_high

-- ---- an axis along which each step goes a whole one

-- there a near coordinate is the place itself
pub exact : (n g : ℕ) (from to q : ℤ) → unsigned_abs (to -ℤ from) ≡ n → IsNearAlong n g from to q → pos n *ℤ q -ℤ reached_of n g from to ≡ pos 0
exact n g from to q long near =
    elim (signs (to -ℤ from) n long) [
      | inl up ↦ multiple (pos n *ℤ q -ℤ reached_of n g from to) (q -ℤ from -ℤ pos g) (ap (λ (d : ℤ). pos n *ℤ q -ℤ (pos n *ℤ from +ℤ pos g *ℤ d)) up ∙ ahead (pos n) (pos g) from q) near
      | inr down ↦ multiple (pos n *ℤ q -ℤ reached_of n g from to) (q -ℤ from +ℤ pos g)
          (ap (λ (d : ℤ). pos n *ℤ q -ℤ (pos n *ℤ from +ℤ pos g *ℤ d)) down ∙ back (pos n) (pos g) from q) near
    ]
  where
    signs : (d : ℤ) (n : ℕ) → unsigned_abs d ≡ n → (d ≡ pos n) ⊎ (d ≡ negsuc 0 *ℤ pos n)
    signs (pos m) n e = inl (omega (arith, ints))
    signs (negsuc m) n e = inr (omega (arith, ints))

    ahead : (n g from q : ℤ) → n *ℤ q -ℤ (n *ℤ from +ℤ g *ℤ n) ≡ n *ℤ (q -ℤ from -ℤ g)
    ahead n g from q =
        equal (n ∷ g ∷ from ∷ q ∷ []) (difference (product (at 0) (at 3)) (sum (product (at 0) (at 2)) (product (at 1) (at 0))))
        (product (at 0) (difference (difference (at 3) (at 2)) (at 1))) refl

    back : (n g from q : ℤ) → n *ℤ q -ℤ (n *ℤ from +ℤ g *ℤ (negsuc 0 *ℤ n)) ≡ n *ℤ (q -ℤ from +ℤ g)
    back n g from q =
        equal (n ∷ g ∷ from ∷ q ∷ []) (difference (product (at 0) (at 3)) (sum (product (at 0) (at 2)) (product (at 1) (product (number (negsuc 0)) (at 0)))))
        (product (at 0) (sum (difference (at 3) (at 2)) (at 1))) refl

    nothing : (n : ℤ) → n *ℤ pos 0 ≡ pos 0
    nothing n = equal (n ∷ []) (product (at 0) (number (pos 0))) (number (pos 0)) refl

    multiple : (r k : ℤ) → r ≡ pos n *ℤ k → unsigned_abs r < n → r ≡ pos 0
    multiple r k e less =
        let none = small_multiple n k (subst (λ (x : ℤ). unsigned_abs x < n) e less) in
        e ∙ ap (λ (x : ℤ). pos n *ℤ x) none ∙ nothing (pos n)

-- so there is only one
one_near : (n g : ℕ) (from to a b : ℤ) → 1 ≤ n → unsigned_abs (to -ℤ from) ≡ n → IsNearAlong n g from to a → IsNearAlong n g from to b → a ≡ b
one_near n g from to a b some long near near' =
    factor_same (pos n) a b (positive n some) (level _ _ _ (exact n g from to a long near) (exact n g from to b long near'))
  where
    level : (x y v : ℤ) → x -ℤ v ≡ pos 0 → y -ℤ v ≡ pos 0 → x ≡ y
    level x y v e e' = omega (arith, ints)

-- ---- points

-- one of the two differences is as long as the leg
pub long_axis : (a b : ℕ) → (a ≡ max a b) ⊎ (b ≡ max a b)
long_axis a b = elim (cases_lt a b) [ inl less ↦ inr (omega (arith, less)) | inr more ↦ inl (omega (arith, more)) ]

-- the points near a way, from the coordinates near it on either axis
pub two_points : (way : StraightWay) (g : ℕ) (x x' z z' : ℤ) (first second : Point) → IsWay way → first ≡ record { x = x; z = z } → second ≡ record { x = x'; z = z' }
    → ((q : ℤ) → IsNearAlong way.steps g way.from.x way.to.x q ↔ ((q ≡ x) ⊎ (q ≡ x'))) → ((q : ℤ) → IsNearAlong way.steps g way.from.z way.to.z q ↔ ((q ≡ z) ⊎ (q ≡ z')))
    → (q : Point) → IsNear way.from way.to g q ↔ ((q ≡ first) ⊎ (q ≡ second))
two_points way g x x' z z' first second is one two across along q = (found, near)
  where
    n : ℕ
    n = way.steps

    at_x : (p : ℤ) → (p ≡ x) ⊎ (p ≡ x') → IsNearAlong (leg_of way.from way.to) g way.from.x way.to.x p
    at_x p which = subst (λ (m : ℕ). IsNearAlong m g way.from.x way.to.x p) is.steps ((across p).1 which)

    at_z : (p : ℤ) → (p ≡ z) ⊎ (p ≡ z') → IsNearAlong (leg_of way.from way.to) g way.from.z way.to.z p
    at_z p which = subst (λ (m : ℕ). IsNearAlong m g way.from.z way.to.z p) is.steps ((along p).1 which)

    near : (q ≡ first) ⊎ (q ≡ second) → IsNear way.from way.to g q
    near (inl same) =
        let e = same ∙ one in record { across = at_x q.x (inl (ap (λ (p : Point). p.x) e)); along = at_z q.z (inl (ap (λ (p : Point). p.z) e)) }
    near (inr same) =
        let e = same ∙ two in record { across = at_x q.x (inr (ap (λ (p : Point). p.x) e)); along = at_z q.z (inr (ap (λ (p : Point). p.z) e)) }

    both : (u v : ℤ) → q.x ≡ u → q.z ≡ v → q ≡ record { x = u; z = v }
    both u v e e' = λ i. record { x = e i; z = e' i }

    same_x : unsigned_abs (way.to.x -ℤ way.from.x) ≡ n → x ≡ x'
    same_x long = one_near n g way.from.x way.to.x x x' is.some long ((across x).1 (inl refl)) ((across x').1 (inr refl))

    same_z : unsigned_abs (way.to.z -ℤ way.from.z) ≡ n → z ≡ z'
    same_z long = one_near n g way.from.z way.to.z z z' is.some long ((along z).1 (inl refl)) ((along z').1 (inr refl))

    by_axis : (q.x ≡ x) ⊎ (q.x ≡ x') → (q.z ≡ z) ⊎ (q.z ≡ z') → (x ≡ x') ⊎ (z ≡ z') → (q ≡ first) ⊎ (q ≡ second)
    by_axis (inl a) (inl b) c = inl (both x z a b ∙ sym one)
    by_axis (inr a) (inr b) c = inr (both x' z' a b ∙ sym two)
    by_axis (inl a) (inr b) (inl e) = inr (both x' z' (a ∙ e) b ∙ sym two)
    by_axis (inl a) (inr b) (inr e) = inl (both x z a (b ∙ sym e) ∙ sym one)
    by_axis (inr a) (inl b) (inl e) = inl (both x z (a ∙ sym e) b ∙ sym one)
    by_axis (inr a) (inl b) (inr e) = inr (both x' z' a (b ∙ e) ∙ sym two)

    axis : (x ≡ x') ⊎ (z ≡ z')
    axis =
        elim (long_axis (unsigned_abs (way.to.x -ℤ way.from.x)) (unsigned_abs (way.to.z -ℤ way.from.z))) [
          | inl wide ↦ inl (same_x (wide ∙ sym is.steps))
          | inr high ↦ inr (same_z (high ∙ sym is.steps))
        ]

    found : IsNear way.from way.to g q → (q ≡ first) ⊎ (q ≡ second)
    found is_near =
        by_axis ((across q.x).0 (subst (λ (m : ℕ). IsNearAlong m g way.from.x way.to.x q.x) (sym is.steps) is_near.across))
        ((along q.z).0 (subst (λ (m : ℕ). IsNearAlong m g way.from.z way.to.z q.z) (sym is.steps) is_near.along)) axis

-- by how much a near point is off the place that is reached, times the number of all steps
abbrev pub offset_of : StraightWay → ℕ → Point → Point
offset_of way g q = record {
  x = pos way.steps *ℤ q.x -ℤ reached_of way.steps g way.from.x way.to.x;
  z = pos way.steps *ℤ q.z -ℤ reached_of way.steps g way.from.z way.to.z;
}

pub near_offset : (way : StraightWay) (g : ℕ) (q : Point) → IsWay way → IsNear way.from way.to g q → IsOffset way (offset_of way g q)
near_offset way g q is near = record {
  across = near_x;
  along = near_z;
  wide = λ long. exact way.steps g way.from.x way.to.x q.x long near_x;
  high = λ long. exact way.steps g way.from.z way.to.z q.z long near_z;
}
  where
    near_x : IsNearAlong way.steps g way.from.x way.to.x q.x
    near_x = subst (λ (m : ℕ). IsNearAlong m g way.from.x way.to.x q.x) (sym is.steps) near.across

    near_z : IsNearAlong way.steps g way.from.z way.to.z q.z
    near_z = subst (λ (m : ℕ). IsNearAlong m g way.from.z way.to.z q.z) (sym is.steps) near.along

-- a way is at most as long as two coordinates are apart
pub few_steps : (way : StraightWay) → IsWay way → way.steps ≤ 131072
few_steps way is = omega (arith, is.steps, apart way.from.x way.to.x is.from.across is.to.across, apart way.from.z way.to.z is.from.along is.to.along)
  where
    apart : (a b : ℤ) → IsCoordinate a → IsCoordinate b → unsigned_abs (b -ℤ a) ≤ 131072
    apart a b p q = omega (arith, ints)

-- ---- what the code gives

-- a place that is reached is a small number
pub small_place : (n : ℕ) (value : ℤ) → n ≤ 131072 → (pos n *ℤ negsuc 65535) ≤ℤ value → value ≤ℤ (pos n *ℤ pos 65536) → unsigned_abs value ≤ 8589934592
small_place n value few least most = omega (arith, ints)

-- a number that is not below 0 is 0 where its bits are
pub nothing_left : (r : ℤ) → pos 0 ≤ℤ r → of_z w64 r ≡ 0 → r ≡ pos 0
nothing_left (pos n) h e = ap pos e
nothing_left (negsuc n) h e = absurd (omega (arith, ints))

pub something_left : (r : ℤ) → (of_z w64 r ≡ 0 → ⊥) → r ≡ pos 0 → ⊥
something_left r not e = not (ap (of_z w64) e)

-- a quotient with what it leaves, rounded down and up
module _ (n : ℕ) (value low rest : ℤ) (some : 1 ≤ n) (whole : value ≡ pos n *ℤ low +ℤ rest) (least : pos 0 ≤ℤ rest) (less : rest <ℤ pos n) where
  not_above : (v m r : ℤ) → v ≡ m +ℤ r → pos 0 ≤ℤ r → m ≤ℤ v
  not_above v m r e h = omega (arith, ints)

  below_next : (v m r n : ℤ) → v ≡ m +ℤ r → r <ℤ n → v <ℤ (m +ℤ n)
  below_next v m r n e h = omega (arith, ints)

  pub rounded_whole : rest ≡ pos 0 → IsRounded (pos n) value low low
  rounded_whole none = record {
    below = not_above value (pos n *ℤ low) rest whole least;
    above = below_next value (pos n *ℤ low) rest (pos n) whole less;
    up = inl (refl, same value (pos n *ℤ low) rest whole none);
  }
    where
      same : (v m r : ℤ) → v ≡ m +ℤ r → r ≡ pos 0 → v ≡ m
      same v m r e z = omega (arith, ints)

  pub rounded_broken : (rest ≡ pos 0 → ⊥) → IsRounded (pos n) value low (low +ℤ pos 1)
  rounded_broken more = record {
    below = not_above value (pos n *ℤ low) rest whole least;
    above = below_next value (pos n *ℤ low) rest (pos n) whole less;
    up = inr (refl, beyond value (pos n *ℤ low) rest whole (positive_rest rest least more));
  }
    where
      positive_rest : (r : ℤ) → pos 0 ≤ℤ r → (r ≡ pos 0 → ⊥) → pos 0 <ℤ r
      positive_rest r h not = grind (arith, ints)

      beyond : (v m r : ℤ) → v ≡ m +ℤ r → pos 0 <ℤ r → m <ℤ v
      beyond v m r e h = omega (arith, ints)

-- rounded numbers between coordinates are coordinates
pub low_coordinate : (n : ℕ) (value low high : ℤ) → 1 ≤ n → IsRounded (pos n) value low high → (pos n *ℤ negsuc 65535) ≤ℤ value → value ≤ℤ (pos n *ℤ pos 65536)
    → IsCoordinate low
low_coordinate n value low high some rounded least most = record {
  low = rounded_low n value low (negsuc 65535) some rounded.above least;
  high = rounded_high n value low (pos 65536) some rounded.below most;
}

pub high_coordinate : (n : ℕ) (value low : ℤ) → 1 ≤ n → IsRounded (pos n) value low (low +ℤ pos 1) → (pos n *ℤ negsuc 65535) ≤ℤ value → value ≤ℤ (pos n *ℤ pos 65536)
    → IsCoordinate (low +ℤ pos 1)
high_coordinate n value low some rounded least most = record {
  low = weaker low (low_coordinate n value low (low +ℤ pos 1) some rounded least most).low;
  high = rounded_higher n value low (pos 65536) some beyond most;
}
  where
    weaker : (a : ℤ) → negsuc 65535 ≤ℤ a → negsuc 65535 ≤ℤ (a +ℤ pos 1)
    weaker a h = omega (arith, ints)

    apart : (a : ℤ) → a +ℤ pos 1 ≡ a → ⊥
    apart a e = omega (arith, ints)

    beyond : (pos n *ℤ low) <ℤ value
    beyond = elim rounded.up [ inl whole ↦ absurd (apart low whole.0) | inr broken ↦ broken.1 ]

-- of two points with coordinates in order the second is not before the first
pub in_order : (x z x' z' : ℤ) → x ≤ℤ x' → z ≤ℤ z' → is_point_before (record { x = x'; z = z' }) (record { x = x; z = z }) ≡ false
in_order x z x' z' h k = grind (arith, ints)
