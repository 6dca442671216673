-- The height where a segment between two spots crosses a line.
use Rattle.std.proofs.Common.{◌≡◌, ℕ, ◌+◌, ◌-◌, ◌*◌, ◌/◌, ◌≤◌, ◌<◌, arith, sym, ◌∙◌, ap}
use Rattle.std.specs.Int.{div_ceil}
use Rattle.tri_raster.specs.declared.triangle.Spot.{Spot}
use Rattle.tri_raster.specs.Spots.{IsSized}
use Rattle.tri_raster.specs.Bounds.{line_crossing, IsHeight}
use Rattle.tri_raster.proofs.Divisions.{times_le, quotient_least, ceiling_least}

-- two products that differ by the crossing's own number
scale_of : (l ln lx rn rx w u : ℕ) → w + l * rn ≡ rx → u + lx ≡ l * ln → lx * rn + (w * ln + u * rn) ≡ rx * ln
scale_of l ln lx rn rx w u e e' = omega (arith, ap (λ (n : ℕ). n * ln) e, ap (λ (n : ℕ). n * rn) e')

module _ (left right : Spot) (line : ℕ) (before : left.x < 16 * line * left.n) (behind : 16 * line * right.n < right.x) where
  pub scale_is : left.x * right.n + (line_crossing left right line).n ≡ right.x * left.n
  scale_is = scale_of (16 * line) left.n left.x right.n right.x (right.x - 16 * line * right.n) (16 * line * left.n - left.x) (omega arith) (omega arith)

  pub crossing_some : 1 ≤ left.n → 1 ≤ (line_crossing left right line).n
  crossing_some one = omega (arith, times_le 1 (right.x - 16 * line * right.n) left.n (omega arith))

  pub crossing_low : IsSized left → IsSized right → (line_crossing left right line).y ≤ 8190 * (line_crossing left right line).n
  crossing_low p q = both (right.x - 16 * line * right.n) (16 * line * left.n - left.x) left.n left.y right.n right.y p.y q.y
    where
      both : (w u n y n' y' : ℕ) → y ≤ 8190 * n → y' ≤ 8190 * n' → w * y + u * y' ≤ 8190 * (w * n + u * n')
      both w u n y n' y' p q = omega (arith, times_le y (8190 * n) w p, times_le y' (8190 * n') u q)

  -- the quotient, down and up, of the numbers that the code has
  pub number_is : (from to y y' : ℕ) → from ≡ right.x - 16 * line * right.n → to ≡ 16 * line * left.n - left.x → y ≡ left.y → y' ≡ right.y → from * y + to * y' ≡ (line_crossing left right line).y
  number_is from to y y' e f g h = ap (λ (n : ℕ). n * y + to * y') e ∙ ap (λ (n : ℕ). (right.x - 16 * line * right.n) * n + to * y') g
      ∙ ap (λ (n : ℕ). (right.x - 16 * line * right.n) * left.y + n * y') f ∙ ap (λ (n : ℕ). (right.x - 16 * line * right.n) * left.y + (16 * line * left.n - left.x) * n) h

  pub products : (x n x' n' : ℕ) → x ≡ right.x → n ≡ left.n → x' ≡ left.x → n' ≡ right.n → x' * n' + (line_crossing left right line).n ≡ x * n
  products x n x' n' e f g h = ap (λ (k : ℕ). k * n' + (line_crossing left right line).n) g ∙ ap (λ (k : ℕ). left.x * k + (line_crossing left right line).n) h
      ∙ scale_is ∙ sym (ap (λ (k : ℕ). k * n) e ∙ ap (λ (k : ℕ). right.x * k) f)

  pub floor_few : (number scale : ℕ) → number ≡ (line_crossing left right line).y → scale ≡ (line_crossing left right line).n → 1 ≤ left.n → IsSized left → IsSized right → number / scale ≤ 8190
  floor_few number scale e f one p q = omega (arith, quotient_least number scale 8191 (omega (arith, crossing_low p q, crossing_some one)))

  pub ceiling_few : (number scale : ℕ) → number ≡ (line_crossing left right line).y → scale ≡ (line_crossing left right line).n → 1 ≤ left.n → IsSized left → IsSized right → div_ceil number scale ≤ 8190
  ceiling_few number scale e f one p q = ceiling_least number scale 8190 (omega (arith, crossing_some one)) (omega (arith, crossing_low p q))

  pub height_is : (number scale low high : ℕ) → number ≡ (line_crossing left right line).y → scale ≡ (line_crossing left right line).n → low ≡ number / scale → high ≡ div_ceil number scale → IsHeight left right line low high
  height_is number scale low high e f g h = record {
    floor = g ∙ ap (λ (n : ℕ). n / scale) e ∙ ap (λ (n : ℕ). (line_crossing left right line).y / n) f;
    ceiling = h ∙ ap (λ (n : ℕ). div_ceil n scale) e ∙ ap (λ (n : ℕ). div_ceil (line_crossing left right line).y n) f;
  }

pub less_of : (a b n : ℕ) → a + n ≡ b → b - a ≡ n
less_of a b n e = omega arith
