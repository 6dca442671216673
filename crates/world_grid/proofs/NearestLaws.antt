-- The whole number nearest to a fraction: there is one, equal fractions have the same, and IEEE 754's own rounding finds it.
use Rattle.std.proofs.Common.{◌≡◌, ◌⊎◌, ℕ, ◌+◌, ◌*◌, ◌%◌, ◌<◌, ◌≤◌, sym, ap, ◌∙◌, subst, inl, inr, arith, le_trans, le_of_eq, mul-le-mul_right, mul_assoc}
use native.Mathlib.Nat.{mul_comm, mul_right_comm, add-mul, one-mul, le_of_mul-le-mul_right, eq_of_mul-eq-mul_right, eq-or-lt_of_le}
use Rattle.world_grid.specs.Grid.{IsNearest}

-- the products that the definition has, opened
odd_times : (n d : ℕ) → (2 * n + 1) * d ≡ 2 * (n * d) + d
odd_times n d = add-mul (2 * n) 1 d ∙ ap (λ (z : ℕ). z + 1 * d) (mul_assoc 2 n d) ∙ ap (λ (z : ℕ). 2 * (n * d) + z) (one-mul d)

even_times : (n d : ℕ) → 2 * n * d ≡ 2 * (n * d)
even_times n d = mul_assoc 2 n d

-- the definition by one product: x is n times the denominator
pub record Nears (a d x n : ℕ) : Type 0 where
  pub below : 2 * a ≤ 2 * x + d
  pub above : 2 * x ≤ 2 * a + d
  pub even : (2 * a ≡ 2 * x + d) ⊎ (2 * x ≡ 2 * a + d) → n % 2 ≡ 0

pub nears : (a d n : ℕ) → IsNearest a d n → Nears a d (n * d) n
nears a d n h = record {
  below = subst (λ (z : ℕ). 2 * a ≤ z) (odd_times n d) h.below;
  above = subst (λ (z : ℕ). z ≤ 2 * a + d) (even_times n d) h.above;
  even = λ e. h.even (elim e [ inl p ↦ inl (p ∙ sym (odd_times n d)) | inr p ↦ inr (even_times n d ∙ p) ]);
}

pub is_nearest : (a d n : ℕ) → Nears a d (n * d) n → IsNearest a d n
is_nearest a d n h = record {
  below = subst (λ (z : ℕ). 2 * a ≤ z) (sym (odd_times n d)) h.below;
  above = subst (λ (z : ℕ). z ≤ 2 * a + d) (sym (even_times n d)) h.above;
  even = λ e. h.even (elim e [ inl p ↦ inl (p ∙ odd_times n d) | inr p ↦ inr (sym (even_times n d) ∙ p) ]);
}

-- two apart: the middle between them is nearer to neither
two_apart : (a d x y : ℕ) → 0 < d → 2 * a ≤ 2 * x + d → 2 * y ≤ 2 * a + d → x + 2 * d ≤ y → ⊥
two_apart a d x y some p q far = omega arith

-- one apart: both are at a tie, and not both are even
one_apart : (a d m n x y : ℕ) → Nears a d x m → Nears a d y n → m + 1 ≡ n → x + d ≤ y → ⊥
one_apart a d m n x y p q next here =
    let below = p.below in
    let above = q.above in
    let even_m = p.even (inl (omega arith)) in
    let even_n = q.even (inr (omega arith)) in
    omega arith

further : (m n k d : ℕ) → m + k ≤ n → m * d + k * d ≤ n * d
further m n k d h = le_trans (le_of_eq (sym (add-mul m k d))) (mul-le-mul_right d h)

never_less : (a d m n : ℕ) → 0 < d → IsNearest a d m → IsNearest a d n → ¬ (m < n)
never_less a d m n some p q less =
    let at_m = nears a d m p in
    let at_n = nears a d n q in
    elim (eq-or-lt_of_le less) [
      | inl next ↦ one_apart a d m n (m * d) (n * d) at_m at_n (omega arith) (subst (λ (z : ℕ). m * d + z ≤ n * d) (one-mul d) (further m n 1 d (omega arith)))
      | inr far ↦ two_apart a d (m * d) (n * d) some at_m.below at_n.above (further m n 2 d (omega arith))
    ]

pub one_nearest : (a d m n : ℕ) → 0 < d → IsNearest a d m → IsNearest a d n → m ≡ n
one_nearest a d m n some p q =
    let left = never_less a d m n some p q in
    let right = never_less a d n m some q p in
    omega (arith, left, right)

-- equal fractions have the same
pub same_fraction : (a b c d n : ℕ) → 0 < b → 0 < d → a * d ≡ c * b → IsNearest a b n → IsNearest c d n
same_fraction a b c d n some also e h =
    let twice : 2 * a * d ≡ 2 * c * b = mul_assoc 2 a d ∙ ap (λ (z : ℕ). 2 * z) e ∙ sym (mul_assoc 2 c b) in
    let over : (2 * n + 1) * b * d ≡ (2 * n + 1) * d * b = mul_right_comm (2 * n + 1) b d in
    let under : 2 * n * b * d ≡ 2 * n * d * b = mul_right_comm (2 * n) b d in
    let sum : (2 * a + b) * d ≡ (2 * c + d) * b = add-mul (2 * a) b d ∙ ap (λ (z : ℕ). z + b * d) twice ∙ ap (λ (z : ℕ). 2 * c * b + z) (mul_comm b d) ∙ sym (add-mul (2 * c) d b) in
    record {
      below = le_of_mul-le-mul_right (le_trans (le_of_eq (sym twice)) (le_trans (mul-le-mul_right d h.below) (le_of_eq over))) some;
      above = le_of_mul-le-mul_right (le_trans (le_of_eq (sym under)) (le_trans (mul-le-mul_right d h.above) (le_of_eq sum))) some;
      even = λ tie. h.even (elim tie [
        | inl p ↦ inl (eq_of_mul-eq-mul_right d also (2 * a) ((2 * n + 1) * b) (twice ∙ ap (λ (z : ℕ). z * b) p ∙ sym over))
        | inr p ↦ inr (eq_of_mul-eq-mul_right d also (2 * n * b) (2 * a + b) (under ∙ ap (λ (z : ℕ). z * b) p ∙ sym sum))
      ]);
    }
