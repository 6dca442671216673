-- A triangle's shadows in a row, from bounds that lie about its spots and crossings.
use Rattle.std.proofs.Common.{ℕ, ◌+◌, ◌*◌, ◌/◌, ◌≤◌, ◌<◌, min, inl, inr, arith, refl, sym, ap, subst, List, length, map}
use Rattle.std.specs.List.{All}
use Rattle.std.specs.Prelude.{slice_index_or}
use Rattle.std.specs.Int.{div_ceil}
use Rattle.std.proofs.lemmas.List.{length-map, get_or-map}
use Rattle.std.proofs.lemmas.List.Elements.{All-map}
use Rattle.tri_raster.specs.declared.triangle.Tri.{Tri}
use Rattle.tri_raster.specs.declared.triangle.Spot.{Spot}
use Rattle.tri_raster.specs.declared.triangle.Mark.{Mark}
use Rattle.tri_raster.specs.declared.triangle.Bound.{Bound}
use Rattle.tri_raster.specs.Triangles.{Weights, count_of, y_of, IsOver, IsInside, IsTriangle}
use Rattle.tri_raster.specs.Spots.{IsSpotOf, mark_of, row_spots}
use Rattle.tri_raster.specs.Bounds.{bound_at, IsReached, IsFilled, AreAbout, AreAboutCrossings, IsMark}
use Rattle.tri_raster.specs.Rows.{MeetsRow, AreRowShadows, hits_of}
use Rattle.tri_raster.proofs.Divisions.{times_le, factor_le}
use Rattle.tri_raster.proofs.Ends.{least, greatest, all_from, all_until, some_from, some_until}
use Rattle.tri_raster.proofs.Places.{column_left, end_right, right_of_column, left_of_end}
use Rattle.tri_raster.proofs.Points.{row_spots_are, row_spots_fit}
use Rattle.tri_raster.proofs.Shadows.{inner, hit, all_right, all_left, IsAboutAll, below, is_shadow}
use Rattle.tri_raster.proofs.Spans.{row_covers}

pub are_marks : (tri : Tri) (z : ℕ) → IsTriangle tri → All IsMark (map mark_of (row_spots tri z))
are_marks tri z is = All-map IsMark mark_of (row_spots tri z) (λ i d within. record { sized = row_spots_fit tri z is i d within; value = refl })

pub marks_of : (tri : Tri) (z : ℕ) → IsTriangle tri → All (λ (mark : Mark). IsSpotOf tri z mark.spot) (map mark_of (row_spots tri z))
marks_of tri z is = All-map (λ (mark : Mark). IsSpotOf tri z mark.spot) mark_of (row_spots tri z) (row_spots_are tri z is)

-- what holds of all marks holds of all spots
of_spots : (P : Spot → Type 0) (spots : List Spot) → All (λ (mark : Mark). P mark.spot) (map mark_of spots) → All P spots
of_spots P spots all i d within =
    subst (λ (mark : Mark). P mark.spot) (get_or-map mark_of spots i d (mark_of d) within) (all i (mark_of d) (subst (λ (n : ℕ). i < n) (sym (length-map spots mark_of)) within))

inside_over : (tri : Tri) (x z : ℕ) (p : Weights) → IsInside tri x z p → IsOver tri x z p
inside_over tri x z p is = record { some = is.some; left = omega (arith, is.left); right = omega (arith, is.right); front = omega (arith, is.front); back = omega (arith, is.back) }

low_enough : (tri : Tri) (p : Weights) → IsTriangle tri → y_of tri p ≤ 8190 * count_of p
low_enough tri p is = omega (arith, times_le tri.a.y 8190 p.u is.a.y, times_le tri.b.y 8190 p.v is.b.y, times_le tri.c.y 8190 p.w is.c.y)

module _ (tri : Tri) (z : ℕ) (is : IsTriangle tri) (meets : MeetsRow tri z) (bounds : List Bound) (few : length bounds ≤ 1024) where
  reaches : (x : ℕ) → least (row_spots tri z) 1024 ≤ x → x < 1024 → x < greatest (row_spots tri z) 0 → (p : Weights) × IsInside tri x z p
  reaches x from few until =
      let s = some_until (IsSpotOf tri z) (row_spots tri z) 0 x (row_spots_are tri z is) until (omega arith) in
      let t = some_from (IsSpotOf tri z) (row_spots tri z) 1024 x (row_spots_are tri z is) from few in
      hit tri x z s.0 t.0 s.1 t.1 (left_of_end s.0.x s.0.n s.1.some x s.2) (let more = right_of_column t.0.x t.0.n t.1.some (x + 1) (omega (arith, t.2)) in omega (arith, more)) (inner tri z meets)

  no_right : (x : ℕ) (p : Weights) → x < least (row_spots tri z) 1024 → IsInside tri x z p → ⊥
  no_right x p h = all_right tri x z (row_spots tri z) (row_covers tri z)
      (λ i d within. let s = slice_index_or (row_spots tri z) i d in
      let right = (all_from (row_spots tri z) 1024 x h).1 i d within in
      let some = (row_spots_are tri z is i d within).some in
      omega (arith, column_left s.x s.n some, times_le (16 * x + 16) (16 * (s.x / (16 * s.n))) s.n (omega (arith, right)))) p

  no_left : (x : ℕ) (p : Weights) → greatest (row_spots tri z) 0 ≤ x → IsInside tri x z p → ⊥
  no_left x p h = all_left tri x z (row_spots tri z) (row_covers tri z)
      (λ i d within. let s = slice_index_or (row_spots tri z) i d in
      let left = (all_until (row_spots tri z) 0 x h).1 i d within in
      let some = (row_spots_are tri z is i d within).some in
      omega (arith, end_right s.x s.n some, times_le (16 * div_ceil s.x (16 * s.n)) (16 * x) s.n (omega (arith, left)))) p

  module _ (about : All (λ (mark : Mark). AreAbout mark.spot bounds) (map mark_of (row_spots tri z)))
      (crossings : All (λ (left : Mark). All (λ (right : Mark). AreAboutCrossings left.spot right.spot bounds) (map mark_of (row_spots tri z))) (map mark_of (row_spots tri z))) where
    all_about : (x : ℕ) → x < length bounds → IsAboutAll x (row_spots tri z) (bound_at bounds x)
    all_about x inside = record {
      spots_there = λ i d within. of_spots (λ (s : Spot). AreAbout s bounds) (row_spots tri z) about i d within x inside;
      crossings = λ i d within j e reached k before behind beside.
          of_spots (λ (q : Spot). AreAboutCrossings (slice_index_or (row_spots tri z) i d) q bounds) (row_spots tri z)
          (of_spots (λ (p : Spot). All (λ (right : Mark). AreAboutCrossings p right.spot bounds) (map mark_of (row_spots tri z))) (row_spots tri z) crossings i d within)
          j e reached k x before behind (elim beside [ inl here ↦ inl here | inr next ↦ inr next ]) inside;
    }

    some : All (λ (s : Spot). 1 ≤ s.n) (row_spots tri z)
    some i d within = (row_spots_are tri z is i d within).some

    low_at : (x : ℕ) → x < length bounds → (p : Weights) → IsInside tri x z p → (bound_at bounds x).low ≤ 8190
    low_at x inside p hits =
        factor_le (bound_at bounds x).low 8190 (count_of p) hits.some (omega (arith, below tri x z (row_spots tri z) (bound_at bounds x) (row_covers tri z) some (all_about x inside) p (inside_over tri x z p hits), low_enough tri p is))

    reached : (x : ℕ) → x < length bounds → (p : Weights) → IsInside tri x z p → IsFilled tri x z (bound_at bounds x) → IsReached tri x z (bound_at bounds x)
    reached x inside p hits (inl e) = absurd (omega (arith, low_at x inside p hits, ap (λ (b : Bound). b.low) e))
    reached x inside p hits (inr r) = r

    pub shadows_are : ((x : ℕ) → least (row_spots tri z) 1024 ≤ x → x < min (greatest (row_spots tri z) 0) (length bounds) → IsFilled tri x z (bound_at bounds x))
        → AreRowShadows tri z bounds (hits_of (map mark_of (row_spots tri z)) (length bounds))
    shadows_are filled = record {
      within = omega arith;
      shadows = λ x from until.
          let there = reaches x from (omega (arith, until, few)) (omega (arith, until)) in
          let inside : x < length bounds = omega (arith, until) in
          is_shadow tri x z (row_spots tri z) (bound_at bounds x) (row_covers tri z) some (all_about x inside) (reached x inside there.0 there.1 (filled x from until)) there.0 there.1;
      low = λ x from until.
          let there = reaches x from (omega (arith, until, few)) (omega (arith, until)) in
          low_at x (omega (arith, until)) there.0 there.1;
      no_others = λ x p inside beside hits. elim beside [
        | inl before ↦ no_right x p before hits
        | inr behind ↦ no_left x p (omega (arith, behind, inside)) hits
      ];
    }
