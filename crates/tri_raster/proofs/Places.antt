-- Where marks lie.
use Rattle.std.proofs.Common.{◌≡◌, ℕ, ◌+◌, ◌*◌, ◌/◌, ◌≤◌, ◌<◌, ◌⊎◌, inl, inr, arith}
use Rattle.std.specs.Int.{div_ceil}
use Rattle.std.proofs.lemmas.Bool.{cases_lt}
use Rattle.tri_raster.proofs.Divisions.{times_le, quotient_times, quotient_above, quotient_most, quotient_least, ceiling_times, ceiling_least, ceiling_most, below_ceiling}

-- a place along x, times n, and its column and the number of lines left of it
module _ (x n : ℕ) (some : 1 ≤ n) where
  pub column_left : 16 * (x / (16 * n)) * n ≤ x
  column_left = omega (arith, quotient_times x (16 * n))

  pub column_right : x < (16 * (x / (16 * n)) + 16) * n
  column_right = omega (arith, quotient_above x (16 * n) (omega arith))

  pub column_most : (k : ℕ) → 16 * k * n ≤ x → k ≤ x / (16 * n)
  column_most k h = quotient_most x (16 * n) k (omega arith) (omega arith)

  pub column_least : (k : ℕ) → x < 16 * k * n → x / (16 * n) < k
  column_least k h = quotient_least x (16 * n) k (omega arith)

  pub right_of_column : (k : ℕ) → x / (16 * n) < k → x < 16 * k * n
  right_of_column k h = omega (arith, column_right, times_le (x / (16 * n) + 1) k n (omega arith))

  pub end_right : x ≤ 16 * div_ceil x (16 * n) * n
  end_right = omega (arith, ceiling_times x (16 * n) (omega arith))

  pub end_least : (k : ℕ) → x ≤ 16 * k * n → div_ceil x (16 * n) ≤ k
  end_least k h = ceiling_least x (16 * n) k (omega arith) (omega arith)

  pub end_most : (k : ℕ) → 16 * k * n < x → k < div_ceil x (16 * n)
  end_most k h = ceiling_most x (16 * n) k (omega arith) (omega arith)

  pub left_of_end : (k : ℕ) → k < div_ceil x (16 * n) → 16 * k * n < x
  left_of_end k h = omega (arith, below_ceiling x (16 * n) k (omega arith) h)

  -- on a line between columns
  pub on_line : div_ceil x (16 * n) ≡ x / (16 * n) → x ≡ 16 * (x / (16 * n)) * n
  on_line e = omega (arith, column_left, end_right, times_le (div_ceil x (16 * n)) (x / (16 * n)) n (omega arith))

  -- it lies in its column, and on a line in the one left of that too, and in no other
  pub columns : (k : ℕ) → 16 * k * n ≤ x → x ≤ (16 * k + 16) * n → (k ≡ x / (16 * n)) ⊎ ((k + 1 ≡ x / (16 * n)) × (div_ceil x (16 * n) ≡ x / (16 * n)))
  columns k left right = elim (cases_lt k (x / (16 * n))) [
    | inl less ↦ inr (before less, omega (arith, before less, end_least (k + 1) (omega arith), column_under_end))
    | inr more ↦ inl (omega (arith, more, column_most k left))
  ]
    where
      before : k < x / (16 * n) → k + 1 ≡ x / (16 * n)
      before less = elim (cases_lt (k + 1) (x / (16 * n))) [
        | inl far ↦ absurd (omega (arith, column_left, times_le (k + 2) (x / (16 * n)) n (omega arith)))
        | inr near ↦ omega arith
      ]

      column_under_end : x / (16 * n) ≤ div_ceil x (16 * n)
      column_under_end = omega arith
