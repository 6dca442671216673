-- Where two keep a distance all the while: four cases, by three numbers. With p the place of the one seen from the other and v the way by which
-- it comes to change, c is p.p less the gap, b is p.v and w is v.v: the square of the distance less the gap is c + 2 b t + w t t at the fraction t.
use Rattle.std.proofs.Common.{◌≡◌, ℕ, ◌*◌, ◌<◌, ◌≤◌, ◌↔◌, ℤ, pos, ◌+ℤ◌, ◌-ℤ◌, ◌*ℤ◌, ◌≤ℤ◌, ◌<ℤ◌, Bool, IsTrue, [], ◌∷◌, refl, sym, subst, ◌∙◌, arith}
use Rattle.std.specs.Prelude.{unsigned_abs}
use lib.IntN.{neg_ℤ}
use Rattle.std.proofs.lemmas.Int.{ints}
use Rattle.nav_base.specs.declared.point.Point.{Point}
use Rattle.nav_base.specs.Point.{dot_of}
use Rattle.nav_base.specs.Deviation.{square_of}
use Rattle.nav_base.proofs.Polynomials.{Term, at, number, opposite, sum, difference, product, equal}
use Rattle.nav_base.proofs.Signs.{square-not_negative, product-not_negative, factor-not_negative}
use Rattle.crowd_moves.specs.Beyond.{place_along, over_gap, KeepsBeyond, NeverBelow}

-- ---- what the square of a length is

square_is : (v : Point) → pos (square_of v) ≡ dot_of v v
unfolding dot_of
square_is v = as_is (v.x *ℤ v.x +ℤ v.z *ℤ v.z) (both _ _ (square-not_negative v.x) (square-not_negative v.z))
  where
    both : (x y : ℤ) → pos 0 ≤ℤ x → pos 0 ≤ℤ y → pos 0 ≤ℤ (x +ℤ y)
    both x y h k = omega (arith, ints)

    as_is : (n : ℤ) → pos 0 ≤ℤ n → pos (unsigned_abs n) ≡ n
    as_is n h = omega (arith, ints)

pub dot_not_negative : (v : Point) → pos 0 ≤ℤ dot_of v v
unfolding dot_of
dot_not_negative v = both _ _ (square-not_negative v.x) (square-not_negative v.z)
  where
    both : (x y : ℤ) → pos 0 ≤ℤ x → pos 0 ≤ℤ y → pos 0 ≤ℤ (x +ℤ y)
    both x y h k = omega (arith, ints)

-- the square at a fraction
square_along : (gap : ℤ) (place way : Point) (num den : ℕ)
    → dot_of (place_along place way num den) (place_along place way num den) -ℤ gap *ℤ (pos den *ℤ pos den)
    ≡ over_gap (dot_of place place -ℤ gap) (dot_of place way) (dot_of way way) num den
unfolding dot_of
square_along gap place way num den =
    equal (place.x ∷ place.z ∷ way.x ∷ way.z ∷ pos num ∷ pos den ∷ gap ∷ [])
    (difference (sum (product x x) (product z z)) (product (at 6) (product (at 5) (at 5))))
    (sum (sum (product (product (at 5) (at 5)) (difference (dot (at 0) (at 1) (at 0) (at 1)) (at 6)))
    (product (product (number (pos 2)) (product (at 4) (at 5))) (dot (at 0) (at 1) (at 2) (at 3)))) (product (product (at 4) (at 4)) (dot (at 2) (at 3) (at 2) (at 3)))) refl
  where
    x : Term
    x = sum (product (at 5) (at 0)) (product (at 4) (at 2))

    z : Term
    z = sum (product (at 5) (at 1)) (product (at 4) (at 3))

    dot : Term → Term → Term → Term → Term
    dot a b c d = sum (product a c) (product b d)

pub beyond_is : (gap : ℕ) (place way : Point) → KeepsBeyond gap place way ↔ NeverBelow (dot_of place place -ℤ pos gap) (dot_of place way) (dot_of way way)
beyond_is gap place way = (
  λ keeps. record {
    keeps = λ num den some within.
        subst (λ (n : ℤ). pos 0 ≤ℤ n) (square_along (pos gap) place way num den)
        (apart gap den (square_of (place_along place way num den)) _ (square_is (place_along place way num den)) (keeps num den some within));
  },
  λ never num den some within.
      together gap den (square_of (place_along place way num den)) _ (square_is (place_along place way num den))
      (subst (λ (n : ℤ). pos 0 ≤ℤ n) (sym (square_along (pos gap) place way num den)) (never.keeps num den some within)),
)
  where
    apart : (gap den square : ℕ) (n : ℤ) → pos square ≡ n → gap * (den * den) ≤ square → pos 0 ≤ℤ (n -ℤ pos gap *ℤ (pos den *ℤ pos den))
    apart gap den square n is h = omega (arith, ints)

    together : (gap den square : ℕ) (n : ℤ) → pos square ≡ n → pos 0 ≤ℤ (n -ℤ pos gap *ℤ (pos den *ℤ pos den)) → gap * (den * den) ≤ square
    together gap den square n is h = omega (arith, ints)

-- ---- the four cases

not_below : (x y : ℤ) → x ≡ y → pos 0 ≤ℤ y → pos 0 ≤ℤ x
not_below x y e h = omega (arith, ints)

natural : (k : ℕ) → pos 0 ≤ℤ pos k
natural k = omega (arith, ints)

sum_not_negative : (x y : ℤ) → pos 0 ≤ℤ x → pos 0 ≤ℤ y → pos 0 ≤ℤ (x +ℤ y)
sum_not_negative x y h k = omega (arith, ints)

-- it is below where the step begins, where the two are nearer there
pub begins_below : (c b w : ℤ) → c <ℤ pos 0 → NeverBelow c b w → ⊥
begins_below c b w less never = apart c less (subst (λ (n : ℤ). pos 0 ≤ℤ n) (at_begin c b w) (never.keeps 0 1 (omega arith) (omega arith)))
  where
    at_begin : (c b w : ℤ) → over_gap c b w 0 1 ≡ c
    at_begin c b w =
        equal (c ∷ b ∷ w ∷ [])
        (sum (sum (product (product (number (pos 1)) (number (pos 1))) (at 0)) (product (product (number (pos 2)) (product (number (pos 0)) (number (pos 1)))) (at 1)))
        (product (product (number (pos 0)) (number (pos 0))) (at 2))) (at 0) refl

    apart : (n : ℤ) → n <ℤ pos 0 → pos 0 ≤ℤ n → ⊥
    apart n h k = omega (arith, ints)

-- never below, where they go apart
pub goes_apart : (c b w : ℤ) → pos 0 ≤ℤ c → pos 0 ≤ℤ b → pos 0 ≤ℤ w → NeverBelow c b w
goes_apart c b w hc hb hw = record {
  keeps = λ num den some within.
      sum_not_negative _ _ (sum_not_negative _ _ (product-not_negative (pos den *ℤ pos den) c (square-not_negative (pos den)) hc)
      (product-not_negative (pos 2 *ℤ (pos num *ℤ pos den)) b
      (product-not_negative (pos 2) (pos num *ℤ pos den) (natural 2) (product-not_negative (pos num) (pos den) (natural num) (natural den))) hb))
      (product-not_negative (pos num *ℤ pos num) w (square-not_negative (pos num)) hw);
}

-- nearest at the end
pub at_end : (c b w : ℤ) → NeverBelow c b w → pos 0 ≤ℤ (w +ℤ pos 2 *ℤ b +ℤ c)
at_end c b w never = subst (λ (n : ℤ). pos 0 ≤ℤ n) (is c b w) (never.keeps 1 1 (omega arith) (omega arith))
  where
    is : (c b w : ℤ) → over_gap c b w 1 1 ≡ w +ℤ pos 2 *ℤ b +ℤ c
    is c b w =
        equal (c ∷ b ∷ w ∷ [])
        (sum (sum (product (product (number (pos 1)) (number (pos 1))) (at 0)) (product (product (number (pos 2)) (product (number (pos 1)) (number (pos 1)))) (at 1)))
        (product (product (number (pos 1)) (number (pos 1))) (at 2))) (sum (sum (at 2) (product (number (pos 2)) (at 1))) (at 0)) refl

pub nearest_at_end : (c b w : ℤ) → pos 0 ≤ℤ w → w ≤ℤ neg_ℤ b → pos 0 ≤ℤ (w +ℤ pos 2 *ℤ b +ℤ c) → NeverBelow c b w
nearest_at_end c b w hw near h = record {
  keeps = λ num den some within.
      not_below _ _ (is c b w (pos num) (pos den))
      (sum_not_negative _ _ (product-not_negative (pos den *ℤ pos den) _ (square-not_negative (pos den)) h)
      (product-not_negative (pos den -ℤ pos num) _ (left num den within)
      (toward b w (pos num) (pos den) (product-not_negative (neg_ℤ b -ℤ w) (pos den +ℤ pos den) (room b w near) (natural_sum den den))
      (product-not_negative w (pos den -ℤ pos num) hw (left num den within)))));
}
  where
    left : (num den : ℕ) → num ≤ den → pos 0 ≤ℤ (pos den -ℤ pos num)
    left num den h = omega (arith, ints)

    room : (b w : ℤ) → w ≤ℤ neg_ℤ b → pos 0 ≤ℤ (neg_ℤ b -ℤ w)
    room b w h = omega (arith, ints)

    natural_sum : (m n : ℕ) → pos 0 ≤ℤ (pos m +ℤ pos n)
    natural_sum m n = omega (arith, ints)

    is : (c b w n d : ℤ) → d *ℤ d *ℤ c +ℤ pos 2 *ℤ (n *ℤ d) *ℤ b +ℤ n *ℤ n *ℤ w
        ≡ d *ℤ d *ℤ (w +ℤ pos 2 *ℤ b +ℤ c) +ℤ (d -ℤ n) *ℤ (neg_ℤ (pos 2 *ℤ d *ℤ b) -ℤ w *ℤ (n +ℤ d))
    is c b w n d =
        equal (c ∷ b ∷ w ∷ n ∷ d ∷ [])
        (sum (sum (product (product (at 4) (at 4)) (at 0)) (product (product (number (pos 2)) (product (at 3) (at 4))) (at 1))) (product (product (at 3) (at 3)) (at 2)))
        (sum (product (product (at 4) (at 4)) (sum (sum (at 2) (product (number (pos 2)) (at 1))) (at 0)))
        (product (difference (at 4) (at 3)) (difference (opposite (product (product (number (pos 2)) (at 4)) (at 1))) (product (at 2) (sum (at 3) (at 4)))))) refl

    toward : (b w n d : ℤ) → pos 0 ≤ℤ ((neg_ℤ b -ℤ w) *ℤ (d +ℤ d)) → pos 0 ≤ℤ (w *ℤ (d -ℤ n)) → pos 0 ≤ℤ (neg_ℤ (pos 2 *ℤ d *ℤ b) -ℤ w *ℤ (n +ℤ d))
    toward b w n d h k = not_below _ _ (split b w n d) (sum_not_negative _ _ h k)
      where
        split : (b w n d : ℤ) → neg_ℤ (pos 2 *ℤ d *ℤ b) -ℤ w *ℤ (n +ℤ d) ≡ (neg_ℤ b -ℤ w) *ℤ (d +ℤ d) +ℤ w *ℤ (d -ℤ n)
        split b w n d =
            equal (b ∷ w ∷ n ∷ d ∷ []) (difference (opposite (product (product (number (pos 2)) (at 3)) (at 0))) (product (at 1) (sum (at 2) (at 3))))
            (sum (product (difference (opposite (at 0)) (at 1)) (sum (at 3) (at 3))) (product (at 1) (difference (at 3) (at 2)))) refl

-- nearest on the way
pub nearest_between : (c b w : ℤ) → pos 0 <ℤ w → (b *ℤ b) ≤ℤ (w *ℤ c) → NeverBelow c b w
nearest_between c b w hw h = record {
  keeps = λ num den some within.
      factor-not_negative w (over_gap c b w num den) hw
      (not_below _ _ (is c b w (pos num) (pos den))
      (sum_not_negative _ _ (square-not_negative (b *ℤ pos den +ℤ w *ℤ pos num))
      (product-not_negative (w *ℤ c -ℤ b *ℤ b) (pos den *ℤ pos den) (apart _ _ h) (square-not_negative (pos den)))));
}
  where
    apart : (x y : ℤ) → x ≤ℤ y → pos 0 ≤ℤ (y -ℤ x)
    apart x y h = omega (arith, ints)

    is : (c b w n d : ℤ) → w *ℤ (d *ℤ d *ℤ c +ℤ pos 2 *ℤ (n *ℤ d) *ℤ b +ℤ n *ℤ n *ℤ w)
        ≡ (b *ℤ d +ℤ w *ℤ n) *ℤ (b *ℤ d +ℤ w *ℤ n) +ℤ (w *ℤ c -ℤ b *ℤ b) *ℤ (d *ℤ d)
    is c b w n d =
        equal (c ∷ b ∷ w ∷ n ∷ d ∷ [])
        (product (at 2) (sum (sum (product (product (at 4) (at 4)) (at 0)) (product (product (number (pos 2)) (product (at 3) (at 4))) (at 1))) (product (product (at 3) (at 3)) (at 2))))
        (sum (product (sum (product (at 1) (at 4)) (product (at 2) (at 3))) (sum (product (at 1) (at 4)) (product (at 2) (at 3))))
        (product (difference (product (at 2) (at 0)) (product (at 1) (at 1))) (product (at 4) (at 4)))) refl

pub between_is : (c b w : ℤ) → b <ℤ pos 0 → neg_ℤ b <ℤ w → NeverBelow c b w → (b *ℤ b) ≤ℤ (w *ℤ c)
between_is c b w back within never =
    together _ _ (factor-not_negative w (w *ℤ c -ℤ b *ℤ b) (above b w back within)
    (subst (λ (n : ℤ). pos 0 ≤ℤ n) (at_nearest (unsigned_abs b) (unsigned_abs w) (num_is b back) (den_is b w back within))
    (never.keeps (unsigned_abs b) (unsigned_abs w) (some b w back within) (less b w back within))))
  where
    together : (x y : ℤ) → pos 0 ≤ℤ (y -ℤ x) → x ≤ℤ y
    together x y h = omega (arith, ints)

    above : (b w : ℤ) → b <ℤ pos 0 → neg_ℤ b <ℤ w → pos 0 <ℤ w
    above b w h k = omega (arith, ints)

    num_is : (b : ℤ) → b <ℤ pos 0 → pos (unsigned_abs b) ≡ neg_ℤ b
    num_is b h = omega (arith, ints)

    den_is : (b w : ℤ) → b <ℤ pos 0 → neg_ℤ b <ℤ w → pos (unsigned_abs w) ≡ w
    den_is b w h k = omega (arith, ints)

    some : (b w : ℤ) → b <ℤ pos 0 → neg_ℤ b <ℤ w → 0 < unsigned_abs w
    some b w h k = omega (arith, ints)

    less : (b w : ℤ) → b <ℤ pos 0 → neg_ℤ b <ℤ w → unsigned_abs b ≤ unsigned_abs w
    less b w h k = omega (arith, ints)

    at_nearest : (num den : ℕ) → pos num ≡ neg_ℤ b → pos den ≡ w → over_gap c b w num den ≡ w *ℤ (w *ℤ c -ℤ b *ℤ b)
    at_nearest num den n_is d_is =
        (λ i. d_is i *ℤ d_is i *ℤ c +ℤ pos 2 *ℤ (n_is i *ℤ d_is i) *ℤ b +ℤ n_is i *ℤ n_is i *ℤ w)
        ∙ equal (c ∷ b ∷ w ∷ [])
        (sum (sum (product (product (at 2) (at 2)) (at 0)) (product (product (number (pos 2)) (product (opposite (at 1)) (at 2))) (at 1)))
        (product (product (opposite (at 1)) (opposite (at 1))) (at 2))) (product (at 2) (difference (product (at 2) (at 0)) (product (at 1) (at 1)))) refl

-- ---- what the code asks

-- the three numbers, as they are read
pub concluded : (gap : ℕ) (place way : Point) (r : Bool) (c b w : ℤ) → (IsTrue r ↔ NeverBelow c b w) → c ≡ dot_of place place -ℤ pos gap
    → b ≡ dot_of place way → w ≡ dot_of way way → IsTrue r ↔ KeepsBeyond gap place way
concluded gap place way r c b w iff c_is b_is w_is = (
  λ true. (beyond_is gap place way).1 (record {
    keeps = λ num den some within.
        subst (λ (n : ℤ). pos 0 ≤ℤ n) (λ i. over_gap (c_is i) (b_is i) (w_is i) num den) ((iff.0 true).keeps num den some within);
  }),
  λ keeps. iff.1 (record {
    keeps = λ num den some within.
        subst (λ (n : ℤ). pos 0 ≤ℤ n) (λ i. over_gap (sym c_is i) (sym b_is i) (sym w_is i) num den) (((beyond_is gap place way).0 keeps).keeps num den some within);
  }),
)
