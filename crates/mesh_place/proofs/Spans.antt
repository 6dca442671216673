-- The columns under a coordinate: of a row no other column is as near.
use Rattle.std.proofs.Common.{◌≡◌, ℕ, ◌+◌, ◌-◌, ◌*◌, ◌/◌, ◌≤◌, ◌<◌, ℤ, pos, negsuc, ◌-ℤ◌, ◌⊎◌, inl, inr, refl, sym, ap, subst, ◌∙◌, arith}
use Rattle.std.specs.Prelude.{min, max, unsigned_abs}
use Rattle.std.specs.Int.{int_max}
use Rattle.std.proofs.lemmas.Bool.{cases_lt}
use Rattle.std.proofs.lemmas.Int.{ints, clamps}
use Rattle.std.proofs.lemmas.Nat.{mul-lt}
use Rattle.mesh_place.specs.Columns.{column_out, span_under}

-- the size of a number that is not less than 0, and of one that is
size_of : (z : ℤ) (n : ℕ) → z ≡ pos n → unsigned_abs z ≡ n
size_of z n is = ap unsigned_abs is

-- how far a coordinate is outside a column
pub out_right : (place m : ℕ) → column_out place (pos m) ≡ max (16 * place - m) (m - 16 * (place + 1))
out_right place m =
    size_of (int_max (pos 0) (int_max (pos (16 * place) -ℤ pos m) (pos m -ℤ pos (16 * (place + 1))))) (max (16 * place - m) (m - 16 * (place + 1)))
    (omega (arith, ints, clamps))

pub out_left : (place k : ℕ) → column_out place (negsuc k) ≡ 16 * place + (k + 1)
out_left place k =
    size_of (int_max (pos 0) (int_max (pos (16 * place) -ℤ negsuc k) (negsuc k -ℤ pos (16 * (place + 1))))) (16 * place + (k + 1))
    (omega (arith, ints, clamps))

pub size_right : (m : ℕ) → unsigned_abs (int_max (pos m) (pos 0)) ≡ m
size_right m = size_of (int_max (pos m) (pos 0)) m (omega (arith, ints, clamps))

pub size_left : (k : ℕ) → unsigned_abs (int_max (negsuc k) (pos 0)) ≡ 0
size_left k = size_of (int_max (negsuc k) (pos 0)) 0 (omega (arith, ints, clamps))

-- a column of a row from x0 on
abbrev pub kept_in : ℕ → ℕ → ℕ → ℕ
kept_in x0 n x = max (min x (x0 + n - 1)) x0

core : (x0 n m l r x c d : ℕ) → l ≡ (m - 1) / 16 → r ≡ m / 16 → c ≡ kept_in x0 n l → d ≡ kept_in x0 n r → x0 ≤ x → x < x0 + n
    → (x ≡ c) ⊎ ((x ≡ d) ⊎ (max (16 * d - m) (m - 16 * (d + 1)) < max (16 * x - m) (m - 16 * (x + 1))))
core x0 n m l r x c d left right is is' low high =
    elim (cases_lt x c) [
      | inl less ↦ inr (inr (omega (arith, left, right, is, is', low, high, less)))
      | inr least ↦
          elim (cases_lt c x) [
            | inr most ↦ inl (omega (arith, least, most))
            | inl over ↦
                elim (cases_lt d x) [
                  | inl more ↦ inr (inr (omega (arith, left, right, is, is', low, high, more)))
                  | inr below ↦ inr (inl (omega (arith, left, right, is, is', low, high, over, below)))
                ]
          ]
    ]

-- a column of a row is one of the two that are nearest, or the second of these is nearer
pub nearest_columns : (x0 n : ℕ) (at : ℤ) (x : ℕ) → x0 ≤ x → x < x0 + n
    → (x ≡ kept_in x0 n (span_under at).first)
    ⊎ ((x ≡ kept_in x0 n (span_under at).last) ⊎ (column_out (kept_in x0 n (span_under at).last) at < column_out x at))
nearest_columns x0 n (pos m) x low high =
    let size = size_right m in
    elim (core x0 n m ((m - 1) / 16) (m / 16) x _ _ refl refl refl refl low high) [
      | inl first ↦ inl (first ∙ ap (λ (s : ℕ). kept_in x0 n ((s - 1) / 16)) (sym size))
      | inr (inl last) ↦ inr (inl (last ∙ ap (λ (s : ℕ). kept_in x0 n (s / 16)) (sym size)))
      | inr (inr less) ↦
          inr (inr (subst (λ (s : ℕ). column_out (kept_in x0 n (s / 16)) (pos m) < column_out x (pos m)) (sym size)
          (omega (arith, less, out_right (kept_in x0 n (m / 16)) m, out_right x m))))
    ]
nearest_columns x0 n (negsuc k) x low high =
    let size = size_left k in
    elim (cases_lt x0 x) [
      | inl over ↦
          inr (inr (subst (λ (s : ℕ). column_out (kept_in x0 n (s / 16)) (negsuc k) < column_out x (negsuc k)) (sym size)
          (omega (arith, over, low, high, out_left (kept_in x0 n (0 / 16)) k, out_left x k))))
      | inr least ↦
          let is : x ≡ kept_in x0 n ((0 - 1) / 16) = omega (arith, least, low, high) in
          inl (is ∙ ap (λ (s : ℕ). kept_in x0 n ((s - 1) / 16)) (sym size))
    ]

-- a column that is not under a coordinate is apart from it
pub apart : (at : ℤ) (z : ℕ) → (z < (span_under at).first) ⊎ ((span_under at).last < z) → 0 < column_out z at
apart (pos m) z (inl less) =
    let size = size_right m in
    let below : z < (m - 1) / 16 = subst (λ (s : ℕ). z < (s - 1) / 16) size less in
    omega (arith, below, out_right z m)
apart (pos m) z (inr more) =
    let size = size_right m in
    let over : m / 16 < z = subst (λ (s : ℕ). s / 16 < z) size more in
    omega (arith, over, out_right z m)
apart (negsuc k) z other = omega (arith, out_left z k)

-- squares
pub square-less : (a b c : ℕ) → a < b → a * a + c * c < b * b + c * c
square-less a b c less = omega (arith, mul-lt a a b b less less)

pub square-some : (a b : ℕ) → 0 < b → 0 < a * a + b * b
square-some a b some = omega (arith, mul-lt 0 0 b b some some)
