-- Heights of spots and crossings, put into the bounds of the columns beside them.
use Rattle.std.proofs.Common.{◌≡◌, ℕ, ◌+◌, ◌-◌, ◌*◌, ◌/◌, ◌≤◌, ◌<◌, ◌⊎◌, inl, inr, arith, sym, ◌∙◌, ap, subst, List, length}
use Rattle.std.specs.Int.{div_ceil}
use Rattle.tri_raster.specs.declared.triangle.Tri.{Tri}
use Rattle.tri_raster.specs.declared.triangle.Spot.{Spot}
use Rattle.tri_raster.specs.declared.triangle.Mark.{Mark}
use Rattle.tri_raster.specs.declared.triangle.Bound.{Bound}
use Rattle.tri_raster.specs.Triangles.{y_of}
use Rattle.tri_raster.specs.Spots.{IsSpotOf, mark_of}
use Rattle.tri_raster.specs.Bounds.{put_at, StaysFilled, AreAbout, IsMark}
use Rattle.tri_raster.proofs.Divisions.{quotient_times, quotient_above, quotient_least, ceiling_times, ceiling_above}
use Rattle.tri_raster.proofs.Places.{column_left, column_right, on_line, columns}
use Rattle.tri_raster.proofs.Points.{spot_over}
use Rattle.tri_raster.proofs.Puts.{IsHeightOver, put-length, put_wider, put_filled, put_about, about_later}

-- the height of a spot over a column, down and up to whole numbers
pub spot_height : (tri : Tri) (k z : ℕ) (s : Spot) → IsSpotOf tri z s → s.y ≤ 8190 * s.n → 16 * k * s.n ≤ s.x → s.x ≤ (16 * k + 16) * s.n → IsHeightOver tri k z (s.y / s.n) (div_ceil s.y s.n)
spot_height tri k z s p low left right = record {
  point = p.point;
  over = spot_over tri k z s p left right;
  floor = subst (λ (n : ℕ). y_of tri p.point < (s.y / s.n + 1) * n) (sym p.count) (omega (arith, p.y, quotient_above s.y s.n p.some));
  ceiling = subst (λ (n : ℕ). div_ceil s.y s.n * n < y_of tri p.point + n) (sym p.count) (omega (arith, p.y, ceiling_above s.y s.n p.some));
  few = omega (arith, quotient_least s.y s.n 8191 (omega (arith, low, p.some)));
}

-- ---- a spot

module _ (mark : Mark) (is : IsMark mark) where
  pub by_spot : (P : Mark → Type 0) → P (mark_of mark.spot) → P mark
  by_spot P p = subst P (sym is.value) p

  pub mark_height : (tri : Tri) (z : ℕ) → IsSpotOf tri z mark.spot → IsHeightOver tri mark.column z mark.low mark.high
  mark_height tri z p = by_spot (λ (m : Mark). IsHeightOver tri m.column z m.low m.high)
      (spot_height tri _ z mark.spot p is.sized.y (column_left mark.spot.x mark.spot.n is.sized.some) (omega (arith, column_right mark.spot.x mark.spot.n is.sized.some)))

  -- where it lies on a line, in the column left of that too
  pub mark_height_left : (tri : Tri) (z : ℕ) → mark.end ≡ mark.column → 0 < mark.column → IsSpotOf tri z mark.spot → IsHeightOver tri (mark.column - 1) z mark.low mark.high
  mark_height_left tri z = by_spot (λ (m : Mark). m.end ≡ m.column → 0 < m.column → IsSpotOf tri z mark.spot → IsHeightOver tri (m.column - 1) z m.low m.high) there
    where
      there : div_ceil mark.spot.x (16 * mark.spot.n) ≡ mark.spot.x / (16 * mark.spot.n) → 0 < mark.spot.x / (16 * mark.spot.n) → IsSpotOf tri z mark.spot
          → IsHeightOver tri (mark.spot.x / (16 * mark.spot.n) - 1) z (mark.spot.y / mark.spot.n) (div_ceil mark.spot.y mark.spot.n)
      there e some p = on_a_line (mark.spot.x / (16 * mark.spot.n)) some (on_line mark.spot.x mark.spot.n is.sized.some e)
        where
          on_a_line : (k : ℕ) → 0 < k → mark.spot.x ≡ 16 * k * mark.spot.n → IsHeightOver tri (k - 1) z (mark.spot.y / mark.spot.n) (div_ceil mark.spot.y mark.spot.n)
          on_a_line k some f = let more : k - 1 + 1 ≡ k = omega arith in
              let same : (16 * (k - 1) + 16) * mark.spot.n ≡ 16 * k * mark.spot.n = ap (λ (n : ℕ). n * mark.spot.n) (omega (arith, more)) in
              spot_height tri (k - 1) z mark.spot p is.sized.y (omega (arith, f, same)) (omega (arith, f, same))

  -- which columns it lies in
  pub mark_columns : (x : ℕ) → 16 * x * mark.spot.n ≤ mark.spot.x → mark.spot.x ≤ (16 * x + 16) * mark.spot.n → (x ≡ mark.column) ⊎ ((x + 1 ≡ mark.column) × (mark.end ≡ mark.column))
  mark_columns x left right = by_spot (λ (m : Mark). (x ≡ m.column) ⊎ ((x + 1 ≡ m.column) × (m.end ≡ m.column))) (columns mark.spot.x mark.spot.n is.sized.some x left right)

  under : mark.low * mark.spot.n ≤ mark.spot.y
  under = by_spot (λ (m : Mark). m.low * mark.spot.n ≤ mark.spot.y) (quotient_times mark.spot.y mark.spot.n)

  above : mark.spot.y ≤ mark.high * mark.spot.n
  above = by_spot (λ (m : Mark). mark.spot.y ≤ m.high * mark.spot.n) (ceiling_times mark.spot.y mark.spot.n is.sized.some)

  -- put into its column alone
  pub put_once : (bounds : List Bound) → ((mark.end ≡ mark.column) → 0 < mark.column → ⊥) → AreAbout mark.spot (put_at bounds mark.column mark.low mark.high)
  put_once bounds apart x inside left right = elim (mark_columns x left right) [
    | inl here ↦ put_about mark.spot bounds mark.column mark.low mark.high x here (subst (λ (n : ℕ). x < n) (put-length bounds mark.column mark.low mark.high) inside) under above
    | inr there ↦ absurd (apart there.1 (omega (arith, there.0)))
  ]

  -- and into the column left of it
  pub put_both : (bounds : List Bound) → AreAbout mark.spot (put_at (put_at bounds mark.column mark.low mark.high) (mark.column - 1) mark.low mark.high)
  put_both bounds x inside left right = elim (mark_columns x left right) [
    | inl here ↦ about_later mark.spot x once _ (put_wider once (mark.column - 1) mark.low mark.high)
        (put_about mark.spot bounds mark.column mark.low mark.high x here (subst (λ (n : ℕ). x < n) (lengths ∙ put-length bounds mark.column mark.low mark.high) inside) under above)
    | inr there ↦ put_about mark.spot once (mark.column - 1) mark.low mark.high x (omega (arith, there.0)) (subst (λ (n : ℕ). x < n) lengths inside) under above
  ]
    where
      once : List Bound
      once = put_at bounds mark.column mark.low mark.high

      lengths : length (put_at once (mark.column - 1) mark.low mark.high) ≡ length once
      lengths = put-length once (mark.column - 1) mark.low mark.high

  -- the same, as the code has it
  pub once_about : (bounds once : List Bound) → once ≡ put_at bounds mark.column mark.low mark.high → (mark.end ≡ mark.column → 0 < mark.column → ⊥) → AreAbout mark.spot once
  once_about bounds once e apart = subst (AreAbout mark.spot) (sym e) (put_once bounds apart)

  pub both_about : (bounds once both : List Bound) → once ≡ put_at bounds mark.column mark.low mark.high → both ≡ put_at once (mark.column - 1) mark.low mark.high → AreAbout mark.spot both
  both_about bounds once both e f = subst (AreAbout mark.spot) (sym (f ∙ ap (λ (bs : List Bound). put_at bs (mark.column - 1) mark.low mark.high) e)) (put_both bounds)

  pub once_filled : (bounds once : List Bound) → once ≡ put_at bounds mark.column mark.low mark.high → (tri : Tri) (z : ℕ) → IsSpotOf tri z mark.spot → StaysFilled tri z bounds once
  once_filled bounds once e tri z p = subst (λ (bs : List Bound). StaysFilled tri z bounds bs) (sym e) (put_filled tri z bounds mark.column mark.low mark.high (mark_height tri z p))

  pub both_filled : (bounds once both : List Bound) → once ≡ put_at bounds mark.column mark.low mark.high → both ≡ put_at once (mark.column - 1) mark.low mark.high → mark.end ≡ mark.column → 0 < mark.column
      → (tri : Tri) (z : ℕ) → IsSpotOf tri z mark.spot → StaysFilled tri z bounds both
  both_filled bounds once both e f level some tri z p x before = subst (λ (bs : List Bound). StaysFilled tri z once bs) (sym f) (put_filled tri z once (mark.column - 1) mark.low mark.high (mark_height_left tri z level some p)) x
      (once_filled bounds once e tri z p x before)
