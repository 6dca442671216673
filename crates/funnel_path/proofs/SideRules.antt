-- The signs of the parts of an equation between products, over plain numbers, so that no product is seen elsewhere.
use Rattle.std.proofs.Common.{◌≡◌, ℤ, pos, negsuc, ◌+ℤ◌, ◌-ℤ◌, ◌*ℤ◌, ◌≤ℤ◌, ◌<ℤ◌, ◌⊎◌, inl, inr, ap, ◌∙◌, zero, suc, refl, arith}
use Rattle.std.proofs.lemmas.Int.{ints}
use lib.IntN.{neg_ℤ, *ℤ_comm, *ℤ-zero}
use Rattle.nav_base.proofs.Signs.{product-not_negative, product-not_positive, product-positive, product-negative, factor-not_negative, factor-not_positive, factor-positive}

-- ---- one number

-- a number that is the opposite of another
pub opposite-not_negative : (m n : ℤ) → m ≡ neg_ℤ n → n ≤ℤ pos 0 → pos 0 ≤ℤ m
opposite-not_negative m n is h = omega (arith, ints)

pub opposite-not_positive : (m n : ℤ) → m ≡ neg_ℤ n → pos 0 ≤ℤ n → m ≤ℤ pos 0
opposite-not_positive m n is h = omega (arith, ints)

pub opposite-positive : (m n : ℤ) → m ≡ neg_ℤ n → n <ℤ pos 0 → pos 0 <ℤ m
opposite-positive m n is h = omega (arith, ints)

pub opposite-negative : (m n : ℤ) → m ≡ neg_ℤ n → pos 0 <ℤ n → m <ℤ pos 0
opposite-negative m n is h = omega (arith, ints)

pub opposite-zero : (m n : ℤ) → m ≡ neg_ℤ n → n ≡ pos 0 → m ≡ pos 0
opposite-zero m n is h = omega (arith, ints)

-- a weaker sign, and signs that exclude one another
pub positive-weak : (n : ℤ) → pos 0 <ℤ n → pos 0 ≤ℤ n
positive-weak n h = omega (arith, ints)

pub negative-weak : (n : ℤ) → n <ℤ pos 0 → n ≤ℤ pos 0
negative-weak n h = omega (arith, ints)

pub zero-at_least : (n : ℤ) → n ≡ pos 0 → pos 0 ≤ℤ n
zero-at_least n e = omega (arith, ints)

pub zero-at_most : (n : ℤ) → n ≡ pos 0 → n ≤ℤ pos 0
zero-at_most n e = omega (arith, ints)

pub zero-both : (n : ℤ) → n ≤ℤ pos 0 → pos 0 ≤ℤ n → n ≡ pos 0
zero-both n h k = omega (arith, ints)

pub positive-not_zero : (n : ℤ) → pos 0 <ℤ n → n ≡ pos 0 → ⊥
positive-not_zero n h e = omega (arith, ints)

pub positive-not_below : (n : ℤ) → pos 0 <ℤ n → n ≤ℤ pos 0 → ⊥
positive-not_below n h k = omega (arith, ints)

pub negative-not_above : (n : ℤ) → n <ℤ pos 0 → pos 0 ≤ℤ n → ⊥
negative-not_above n h k = omega (arith, ints)

-- numbers on two sides of 0
pub around-not_above : (m n : ℤ) → m ≤ℤ pos 0 → pos 0 ≤ℤ n → m ≤ℤ n
around-not_above m n h k = omega (arith, ints)

pub around-below : (m n : ℤ) → m ≤ℤ pos 0 → pos 0 <ℤ n → m <ℤ n
around-below m n h k = omega (arith, ints)

pub around-above : (m n : ℤ) → m <ℤ pos 0 → pos 0 ≤ℤ n → m <ℤ n
around-above m n h k = omega (arith, ints)

-- a number has one of three signs
pub signs : (n : ℤ) → (n <ℤ pos 0) ⊎ ((n ≡ pos 0) ⊎ (pos 0 <ℤ n))
signs (pos zero) = inr (inl refl)
signs (pos (suc n)) = inr (inr (omega (arith, ints)))
signs (negsuc n) = inl (omega (arith, ints))

-- a number that is not negative is 0 or positive, and one that is not positive is 0 or negative
pub not_negative-signs : (n : ℤ) → pos 0 ≤ℤ n → (n ≡ pos 0) ⊎ (pos 0 <ℤ n)
not_negative-signs (pos zero) h = inl refl
not_negative-signs (pos (suc n)) h = inr (omega (arith, ints))
not_negative-signs (negsuc n) h = absurd (omega (arith, ints))

pub not_positive-signs : (n : ℤ) → n ≤ℤ pos 0 → (n ≡ pos 0) ⊎ (n <ℤ pos 0)
not_positive-signs (pos zero) h = inl refl
not_positive-signs (pos (suc n)) h = absurd (omega (arith, ints))
not_positive-signs (negsuc n) h = inr (omega (arith, ints))

pub difference-positive : (m n : ℤ) → m <ℤ n → pos 0 <ℤ (n -ℤ m)
difference-positive m n h = omega (arith, ints)

pub difference-not_negative : (m n : ℤ) → m ≤ℤ n → pos 0 ≤ℤ (n -ℤ m)
difference-not_negative m n h = omega (arith, ints)

-- ---- a sum of two numbers

pub sum-not_negative : (e m n : ℤ) → e ≡ m +ℤ n → pos 0 ≤ℤ m → pos 0 ≤ℤ n → pos 0 ≤ℤ e
sum-not_negative e m n is p q = omega (arith, ints)

pub sum-not_positive : (e m n : ℤ) → e ≡ m +ℤ n → m ≤ℤ pos 0 → n ≤ℤ pos 0 → e ≤ℤ pos 0
sum-not_positive e m n is p q = omega (arith, ints)

pub sum-positive : (e m n : ℤ) → e ≡ m +ℤ n → pos 0 <ℤ m → pos 0 ≤ℤ n → pos 0 <ℤ e
sum-positive e m n is p q = omega (arith, ints)

pub sum-positive_right : (e m n : ℤ) → e ≡ m +ℤ n → pos 0 ≤ℤ m → pos 0 <ℤ n → pos 0 <ℤ e
sum-positive_right e m n is p q = omega (arith, ints)

pub sum-negative : (e m n : ℤ) → e ≡ m +ℤ n → m <ℤ pos 0 → n ≤ℤ pos 0 → e <ℤ pos 0
sum-negative e m n is p q = omega (arith, ints)

-- a product of two negative numbers
pub product-negatives : (m n : ℤ) → m <ℤ pos 0 → n <ℤ pos 0 → pos 0 <ℤ (m *ℤ n)
product-negatives (pos m) n h k = absurd (omega (arith, ints))
product-negatives (negsuc m) (pos n) h k = absurd (omega (arith, ints))
product-negatives (negsuc m) (negsuc n) h k = product-positive (pos (suc m)) (pos (suc n)) (omega (arith, ints)) (omega (arith, ints))

-- a sum of numbers that are not negative is 0 only where both are
pub sum-zero : (m n : ℤ) → m +ℤ n ≡ pos 0 → pos 0 ≤ℤ m → pos 0 ≤ℤ n → (m ≡ pos 0) × (n ≡ pos 0)
sum-zero m n is p q = (omega (arith, ints), omega (arith, ints))

-- ---- a positive number times another is a sum of two products: then the other has the sign of the products

pub weighted-not_negative : (d x u v w y : ℤ) → d *ℤ x ≡ u *ℤ v +ℤ w *ℤ y → pos 0 <ℤ d → pos 0 ≤ℤ u → pos 0 ≤ℤ v → pos 0 ≤ℤ w → pos 0 ≤ℤ y → pos 0 ≤ℤ x
weighted-not_negative d x u v w y is some p q r s =
    factor-not_negative d x some (sum-not_negative (d *ℤ x) (u *ℤ v) (w *ℤ y) is (product-not_negative u v p q) (product-not_negative w y r s))

pub weighted-not_positive : (d x u v w y : ℤ) → d *ℤ x ≡ u *ℤ v +ℤ w *ℤ y → pos 0 <ℤ d → pos 0 ≤ℤ u → v ≤ℤ pos 0 → pos 0 ≤ℤ w → y ≤ℤ pos 0 → x ≤ℤ pos 0
weighted-not_positive d x u v w y is some p q r s =
    factor-not_positive d x some (sum-not_positive (d *ℤ x) (u *ℤ v) (w *ℤ y) is (product-not_positive u v p q) (product-not_positive w y r s))

pub weighted-positive : (d x u v w y : ℤ) → d *ℤ x ≡ u *ℤ v +ℤ w *ℤ y → pos 0 <ℤ d → pos 0 <ℤ u → pos 0 <ℤ v → pos 0 ≤ℤ w → pos 0 ≤ℤ y → pos 0 <ℤ x
weighted-positive d x u v w y is some p q r s =
    factor-positive d x some (sum-positive (d *ℤ x) (u *ℤ v) (w *ℤ y) is (product-positive u v p q) (product-not_negative w y r s))

pub weighted-positive_right : (d x u v w y : ℤ) → d *ℤ x ≡ u *ℤ v +ℤ w *ℤ y → pos 0 <ℤ d → pos 0 ≤ℤ u → pos 0 ≤ℤ v → pos 0 <ℤ w → pos 0 <ℤ y → pos 0 <ℤ x
weighted-positive_right d x u v w y is some p q r s =
    factor-positive d x some (sum-positive_right (d *ℤ x) (u *ℤ v) (w *ℤ y) is (product-not_negative u v p q) (product-positive w y r s))

-- a sum of two parts, where the second is a difference: not both numbers are 0
pub weighted_difference-positive : (d x u v w y : ℤ) → d *ℤ x ≡ u *ℤ v -ℤ w *ℤ y → pos 0 <ℤ d → pos 0 <ℤ u → pos 0 <ℤ w → pos 0 ≤ℤ v → y ≤ℤ pos 0 → y <ℤ v → pos 0 <ℤ x
weighted_difference-positive d x u v w y is some p q r s apart =
    elim (not_negative-signs v r) [
      | inr more ↦ factor-positive d x some (ahead (d *ℤ x) (u *ℤ v) (w *ℤ y) is (product-positive u v p more) (product-not_positive w y (weak w q) s))
      | inl none ↦ factor-positive d x some (behind (d *ℤ x) (u *ℤ v) (w *ℤ y) is (product-not_negative u v (weak u p) r) (product-negative w y q (less y v none apart)))
    ]
  where
    ahead : (e m n : ℤ) → e ≡ m -ℤ n → pos 0 <ℤ m → n ≤ℤ pos 0 → pos 0 <ℤ e
    ahead e m n is h k = omega (arith, ints)

    behind : (e m n : ℤ) → e ≡ m -ℤ n → pos 0 ≤ℤ m → n <ℤ pos 0 → pos 0 <ℤ e
    behind e m n is h k = omega (arith, ints)

    weak : (n : ℤ) → pos 0 <ℤ n → pos 0 ≤ℤ n
    weak n h = omega (arith, ints)

    less : (y v : ℤ) → v ≡ pos 0 → y <ℤ v → y <ℤ pos 0
    less y v e h = omega (arith, ints)

-- ---- products that are 0

-- a square is 0 only at 0
pub square-zero : (n : ℤ) → n *ℤ n ≡ pos 0 → n ≡ pos 0
square-zero (pos zero) e = refl
square-zero (pos (suc n)) e = absurd (some (pos (suc n) *ℤ pos (suc n)) e (product-positive (pos (suc n)) (pos (suc n)) (omega (arith, ints)) (omega (arith, ints))))
  where
    some : (m : ℤ) → m ≡ pos 0 → pos 0 <ℤ m → ⊥
    some m e h = omega (arith, ints)
square-zero (negsuc n) e = absurd (some (pos (suc n) *ℤ pos (suc n)) e (product-positive (pos (suc n)) (pos (suc n)) (omega (arith, ints)) (omega (arith, ints))))
  where
    some : (m : ℤ) → m ≡ pos 0 → pos 0 <ℤ m → ⊥
    some m e h = omega (arith, ints)

-- a part that is a product with 0
pub zero-product : (z w : ℤ) → z ≡ pos 0 → z *ℤ w ≡ pos 0
zero-product z w e = *ℤ_comm z w ∙ ap (λ (n : ℤ). w *ℤ n) e ∙ *ℤ-zero w

pub without : (m n z w : ℤ) → m ≡ n +ℤ z *ℤ w → z ≡ pos 0 → m ≡ n
without m n z w is e = drop_part m n (z *ℤ w) is (zero-product z w e)
  where
    drop_part : (m n o : ℤ) → m ≡ n +ℤ o → o ≡ pos 0 → m ≡ n
    drop_part m n o is e = omega (arith, ints)

-- a factor beside a positive one is negative where the product is
pub factor-negative : (a b : ℤ) → pos 0 <ℤ a → (a *ℤ b) <ℤ pos 0 → b <ℤ pos 0
factor-negative a b p q =
    elim (not_positive-signs b (factor-not_positive a b p (weak (a *ℤ b) q))) [ inl none ↦ absurd (apart (a *ℤ b) (*ℤ_comm a b ∙ zero-product b a none) q) | inr less ↦ less ]
  where
    weak : (n : ℤ) → n <ℤ pos 0 → n ≤ℤ pos 0
    weak n h = omega (arith, ints)

    apart : (n : ℤ) → n ≡ pos 0 → n <ℤ pos 0 → ⊥
    apart n e h = omega (arith, ints)

-- two positive multiples are equal: both numbers have one sign
pub multiple-not_negative : (d x e y : ℤ) → d *ℤ x ≡ e *ℤ y → pos 0 <ℤ d → pos 0 ≤ℤ e → pos 0 ≤ℤ y → pos 0 ≤ℤ x
multiple-not_negative d x e y is some p q = factor-not_negative d x some (same (d *ℤ x) (e *ℤ y) is (product-not_negative e y p q))
  where
    same : (m n : ℤ) → m ≡ n → pos 0 ≤ℤ n → pos 0 ≤ℤ m
    same m n e h = omega (arith, ints)

pub multiple-not_positive : (d x e y : ℤ) → d *ℤ x ≡ e *ℤ y → pos 0 <ℤ d → pos 0 ≤ℤ e → y ≤ℤ pos 0 → x ≤ℤ pos 0
multiple-not_positive d x e y is some p q = factor-not_positive d x some (same (d *ℤ x) (e *ℤ y) is (product-not_positive e y p q))
  where
    same : (m n : ℤ) → m ≡ n → n ≤ℤ pos 0 → m ≤ℤ pos 0
    same m n e h = omega (arith, ints)

pub multiple-positive : (d x e y : ℤ) → d *ℤ x ≡ e *ℤ y → pos 0 <ℤ d → pos 0 <ℤ e → pos 0 <ℤ y → pos 0 <ℤ x
multiple-positive d x e y is some p q = factor-positive d x some (same (d *ℤ x) (e *ℤ y) is (product-positive e y p q))
  where
    same : (m n : ℤ) → m ≡ n → pos 0 <ℤ n → pos 0 <ℤ m
    same m n e h = omega (arith, ints)

pub multiple-negative : (d x e y : ℤ) → d *ℤ x ≡ e *ℤ y → pos 0 <ℤ d → pos 0 <ℤ e → y <ℤ pos 0 → x <ℤ pos 0
multiple-negative d x e y is some p q = factor-negative d x some (same (d *ℤ x) (e *ℤ y) is (product-negative e y p q))
  where
    same : (m n : ℤ) → m ≡ n → n <ℤ pos 0 → m <ℤ pos 0
    same m n e h = omega (arith, ints)
