-- Whole numbers: what is read of them in 64 bits, and products with a positive one.
use Rattle.std.proofs.Common.{◌≡◌, ℕ, zero, suc, ◌+◌, ◌*◌, ◌^◌, ◌≤◌, ◌<◌, ℤ, pos, negsuc, ◌+ℤ◌, ◌-ℤ◌, ◌*ℤ◌, ◌≤ℤ◌, ◌<ℤ◌, [], ◌∷◌, FitsSigned, w32, w64, lit<, to_z, of_z, sym, subst, ap, ap₂, ◌∙◌, refl, arith}
use Rattle.std.specs.Int.{int_div_euclid, int_rem_euclid}
use Rattle.std.specs.Int.RustNames.{unsigned_abs}
use Rattle.std.proofs.lemmas.Int.{ints, to_z-of_z, fits_signed_from_abs, fits_signed_mul, unsigned_abs-mul}
use Rattle.std.proofs.lemmas.Nat.{mul-le, div-add-mod'}
use Rattle.nav_base.specs.Point.{IsCoordinate}
use Rattle.nav_base.proofs.Polynomials.{at, number, sum, difference, product, equal}
use Rattle.nav_base.proofs.Signs.{product-not_negative, factor-not_negative, factor-positive}
use mir.Val.{hbits}

-- ---- what is read in 64 bits

pub fits : (n : ℤ) (k : ℕ) → unsigned_abs n ≤ k → k < 2 ^ hbits w64 → FitsSigned w64 n
fits n k within small = fits_signed_from_abs w64 n (omega (arith, within, small))

pub reads : (n : ℤ) (k : ℕ) → unsigned_abs n ≤ k → k < 2 ^ hbits w64 → to_z w64 (of_z w64 n) ≡ n
reads n k within small = to_z-of_z w64 n (fits n k within small)

-- a coordinate is read in 32 bits as it was written, and in 64
pub small_coordinate : (n : ℤ) → IsCoordinate n → unsigned_abs n ≤ 65536
small_coordinate n is = omega (arith, ints)

pub coordinate_reads : (n : ℤ) → IsCoordinate n → to_z w32 (of_z w32 n) ≡ n
coordinate_reads n is = to_z-of_z w32 n (fits_signed_from_abs w32 n (omega (arith, small_coordinate n is)))

pub coordinate_narrows : (n : ℤ) → IsCoordinate n → to_z w32 (of_z w32 (to_z w64 (of_z w64 n))) ≡ n
coordinate_narrows n is = ap (λ (x : ℤ). to_z w32 (of_z w32 x)) (reads n 65536 (small_coordinate n is) (lit< tt)) ∙ coordinate_reads n is

-- a product of two numbers that were read
pub product_fits : (m n a b : ℤ) (j k : ℕ) → m ≡ a → n ≡ b → unsigned_abs a ≤ j → unsigned_abs b ≤ k → j < 2 ^ hbits w64 → k < 2 ^ hbits w64 → j * k < 2 ^ hbits w64
    → FitsSigned w64 (to_z w64 (of_z w64 m) *ℤ to_z w64 (of_z w64 n))
product_fits m n a b j k is is' within within' small small' small'' =
    subst (FitsSigned w64)
    (sym (ap₂ ◌*ℤ◌ (ap (λ (x : ℤ). to_z w64 (of_z w64 x)) is ∙ reads a j within small) (ap (λ (x : ℤ). to_z w64 (of_z w64 x)) is' ∙ reads b k within' small')))
    (fits_signed_mul w64 a b j k within within' small'')

pub product_reads : (m n a b : ℤ) (j k : ℕ) → m ≡ a → n ≡ b → unsigned_abs a ≤ j → unsigned_abs b ≤ k → j < 2 ^ hbits w64 → k < 2 ^ hbits w64 → j * k < 2 ^ hbits w64
    → to_z w64 (of_z w64 (to_z w64 (of_z w64 m) *ℤ to_z w64 (of_z w64 n))) ≡ a *ℤ b
product_reads m n a b j k is is' within within' small small' small'' =
    to_z-of_z w64 _ (product_fits m n a b j k is is' within within' small small' small'')
    ∙ ap₂ ◌*ℤ◌ (ap (λ (x : ℤ). to_z w64 (of_z w64 x)) is ∙ reads a j within small) (ap (λ (x : ℤ). to_z w64 (of_z w64 x)) is' ∙ reads b k within' small')

pub product_small : (a b : ℤ) (j k : ℕ) → unsigned_abs a ≤ j → unsigned_abs b ≤ k → unsigned_abs (a *ℤ b) ≤ j * k
product_small a b j k within within' = rw (unsigned_abs-mul a b) (mul-le (unsigned_abs a) (unsigned_abs b) j k within within')

-- a sum and a difference of two numbers that were read
pub sum_reads : (m n : ℤ) (j k : ℕ) → unsigned_abs m ≤ j → unsigned_abs n ≤ k → j < 2 ^ 62 → k < 2 ^ 62
    → to_z w64 (of_z w64 (to_z w64 (of_z w64 m) +ℤ to_z w64 (of_z w64 n))) ≡ m +ℤ n
sum_reads m n j k within within' small small' =
    ap (λ (x : ℤ). to_z w64 (of_z w64 x)) (ap₂ ◌+ℤ◌ (reads m j within (omega (arith, small))) (reads n k within' (omega (arith, small'))))
    ∙ reads (m +ℤ n) (j + k) (together m n j k within within') (omega (arith, small, small'))
  where
    together : (a b : ℤ) (j k : ℕ) → unsigned_abs a ≤ j → unsigned_abs b ≤ k → unsigned_abs (a +ℤ b) ≤ j + k
    together a b j k h h' = omega (arith, ints)

apart : (a b : ℤ) (j k : ℕ) → unsigned_abs a ≤ j → unsigned_abs b ≤ k → unsigned_abs (a -ℤ b) ≤ j + k
apart a b j k h h' = omega (arith, ints)

pub difference_fits : (m n : ℤ) (j k : ℕ) → unsigned_abs m ≤ j → unsigned_abs n ≤ k → j < 2 ^ 62 → k < 2 ^ 62
    → FitsSigned w64 (to_z w64 (of_z w64 m) -ℤ to_z w64 (of_z w64 n))
difference_fits m n j k within within' small small' =
    subst (FitsSigned w64) (sym (ap₂ ◌-ℤ◌ (reads m j within (omega (arith, small))) (reads n k within' (omega (arith, small')))))
    (fits (m -ℤ n) (j + k) (apart m n j k within within') (omega (arith, small, small')))

pub difference_reads : (m n : ℤ) (j k : ℕ) → unsigned_abs m ≤ j → unsigned_abs n ≤ k → j < 2 ^ 62 → k < 2 ^ 62
    → to_z w64 (of_z w64 (to_z w64 (of_z w64 m) -ℤ to_z w64 (of_z w64 n))) ≡ m -ℤ n
difference_reads m n j k within within' small small' =
    to_z-of_z w64 _ (difference_fits m n j k within within' small small')
    ∙ ap₂ ◌-ℤ◌ (reads m j within (omega (arith, small))) (reads n k within' (omega (arith, small')))

-- ---- products with a positive number

spread : (n a b : ℤ) → n *ℤ (b -ℤ a) ≡ n *ℤ b -ℤ n *ℤ a
spread n a b = equal (n ∷ a ∷ b ∷ []) (product (at 0) (difference (at 2) (at 1))) (difference (product (at 0) (at 2)) (product (at 0) (at 1))) refl

-- one more
pub one_more : (n a : ℤ) → n *ℤ (a +ℤ pos 1) ≡ n *ℤ a +ℤ n
one_more n a = equal (n ∷ a ∷ []) (product (at 0) (sum (at 1) (number (pos 1)))) (sum (product (at 0) (at 1)) (at 0)) refl

pub times_le : (n a b : ℤ) → pos 0 ≤ℤ n → a ≤ℤ b → (n *ℤ a) ≤ℤ (n *ℤ b)
times_le n a b some h = back (n *ℤ a) (n *ℤ b) (n *ℤ (b -ℤ a)) (spread n a b) (product-not_negative n (b -ℤ a) some (up a b h))
  where
    up : (a b : ℤ) → a ≤ℤ b → pos 0 ≤ℤ (b -ℤ a)
    up a b h = omega (arith, ints)

    back : (x y z : ℤ) → z ≡ y -ℤ x → pos 0 ≤ℤ z → x ≤ℤ y
    back x y z e h = omega (arith, ints)

pub factor_le : (n a b : ℤ) → pos 0 <ℤ n → (n *ℤ a) ≤ℤ (n *ℤ b) → a ≤ℤ b
factor_le n a b some h = back a b (factor-not_negative n (b -ℤ a) some (up (n *ℤ a) (n *ℤ b) (n *ℤ (b -ℤ a)) (spread n a b) h))
  where
    up : (x y z : ℤ) → z ≡ y -ℤ x → x ≤ℤ y → pos 0 ≤ℤ z
    up x y z e h = omega (arith, ints)

    back : (a b : ℤ) → pos 0 ≤ℤ (b -ℤ a) → a ≤ℤ b
    back a b h = omega (arith, ints)

pub factor_lt : (n a b : ℤ) → pos 0 <ℤ n → (n *ℤ a) <ℤ (n *ℤ b) → a <ℤ b
factor_lt n a b some h = back a b (factor-positive n (b -ℤ a) some (up (n *ℤ a) (n *ℤ b) (n *ℤ (b -ℤ a)) (spread n a b) h))
  where
    up : (x y z : ℤ) → z ≡ y -ℤ x → x <ℤ y → pos 0 <ℤ z
    up x y z e h = omega (arith, ints)

    back : (a b : ℤ) → pos 0 <ℤ (b -ℤ a) → a <ℤ b
    back a b h = omega (arith, ints)

pub factor_same : (n a b : ℤ) → pos 0 <ℤ n → n *ℤ a ≡ n *ℤ b → a ≡ b
factor_same n a b some e = both a b (factor_le n a b some (low (n *ℤ a) (n *ℤ b) e)) (factor_le n b a some (low (n *ℤ b) (n *ℤ a) (sym e)))
  where
    low : (x y : ℤ) → x ≡ y → x ≤ℤ y
    low x y e = omega (arith, ints)

    both : (a b : ℤ) → a ≤ℤ b → b ≤ℤ a → a ≡ b
    both a b h k = omega (arith, ints)

-- a multiple of n that is less than n, whatever its sign, is none
pub small_multiple : (n : ℕ) (k : ℤ) → unsigned_abs (pos n *ℤ k) < n → k ≡ pos 0
small_multiple n k less = none k n (unsigned_abs-mul (pos n) k) less
  where
    none : (k : ℤ) (n : ℕ) → unsigned_abs (pos n *ℤ k) ≡ unsigned_abs (pos n) * unsigned_abs k → unsigned_abs (pos n *ℤ k) < n → k ≡ pos 0
    none (pos zero) n e less = refl
    none (pos (suc k)) n e less = absurd (omega (arith, e, less, mul-le n 1 n (suc k) (omega arith) (omega arith)))
    none (negsuc k) n e less = absurd (omega (arith, e, less, mul-le n 1 n (suc k) (omega arith) (omega arith)))

-- ---- quotients that are rounded down, and what they leave

pub quotient_below : (a : ℤ) (k : ℕ) → 0 < k → (pos k *ℤ int_div_euclid a (pos k)) ≤ℤ a
quotient_below (pos a) k some = let parts = div-add-mod' a k in omega (arith, ints)
quotient_below (negsuc a) k some = let parts = div-add-mod' a k in omega (arith, ints)

pub quotient_above : (a : ℤ) (k : ℕ) → 0 < k → a <ℤ (pos k *ℤ int_div_euclid a (pos k) +ℤ pos k)
quotient_above (pos a) k some = let parts = div-add-mod' a k in omega (arith, ints)
quotient_above (negsuc a) k some = let parts = div-add-mod' a k in omega (arith, ints)

pub quotient_left : (a : ℤ) (k : ℕ) → 0 < k → a ≡ pos k *ℤ int_div_euclid a (pos k) +ℤ int_rem_euclid a (pos k)
quotient_left (pos a) k some = let parts = div-add-mod' a k in omega (arith, ints)
quotient_left (negsuc a) k some = let parts = div-add-mod' a k in omega (arith, ints)
