-- Heights of crossings, put into the bounds of the columns beside their lines.
use Rattle.std.proofs.Common.{◌≡◌, ℕ, ◌+◌, ◌-◌, ◌*◌, ◌/◌, ◌≤◌, ◌<◌, ◌⊎◌, inl, inr, arith, sym, ◌∙◌, ap, refl, subst, List, length, min, max}
use Rattle.std.proofs.lemmas.Bool.{cases_lt}
use Rattle.tri_raster.specs.declared.triangle.Tri.{Tri}
use Rattle.tri_raster.specs.declared.triangle.Spot.{Spot}
use Rattle.tri_raster.specs.declared.triangle.Mark.{Mark}
use Rattle.tri_raster.specs.declared.triangle.Bound.{Bound}
use Rattle.tri_raster.specs.Spots.{IsSpotOf}
use Rattle.tri_raster.specs.Bounds.{bound_at, put_at, line_crossing, IsAbout, IsWider, StaysFilled, AreAboutCrossings, IsMark, IsHeight}
use Rattle.tri_raster.proofs.Divisions.{times_le, quotient_times, ceiling_times}
use Rattle.tri_raster.proofs.Heights.{crossing_some, crossing_low}
use Rattle.tri_raster.proofs.Noted.{by_spot, spot_height}
use Rattle.tri_raster.proofs.Places.{column_right, right_of_column, left_of_end, end_least, column_least, end_most}
use Rattle.tri_raster.proofs.Points.{line_spot}
use Rattle.tri_raster.proofs.Puts.{IsHeightOver, put_wider, put_filled, put_about, put_twice, no_wider, wider_then, about_later}

-- the bounds beside the lines before a line lie about the crossings there
abbrev pub AreAboutLines : Spot → Spot → ℕ → List Bound → Type 0
AreAboutLines left right end bounds = (k x : ℕ) → left.x < 16 * k * left.n → 16 * k * right.n < right.x → k < end → (k ≡ x) ⊎ (k ≡ x + 1) → x < length bounds
    → IsAbout (line_crossing left right k) (bound_at bounds x)

-- bounds were widened by the heights at the lines before a line
pub record AreWidenedUpTo (left right : Mark) (line : ℕ) (old new : List Bound) : Type 0 where
  pub wider : IsWider old new
  pub filled : (tri : Tri) (z : ℕ) → IsSpotOf tri z left.spot → IsSpotOf tri z right.spot → StaysFilled tri z old new
  pub about : AreAboutLines left.spot right.spot line new

module _ (left right : Mark) (is : IsMark left) (is' : IsMark right) where
  -- the lines between two spots are those from behind the column of the one to before the end of the other
  pub lies_right : (line : ℕ) → left.column < line → left.spot.x < 16 * line * left.spot.n
  lies_right line = by_spot left is (λ (m : Mark). m.column < line → left.spot.x < 16 * line * left.spot.n) (right_of_column left.spot.x left.spot.n is.sized.some line)

  pub lies_left : (line : ℕ) → line < right.end → 16 * line * right.spot.n < right.spot.x
  lies_left line = by_spot right is' (λ (m : Mark). line < m.end → 16 * line * right.spot.n < right.spot.x) (left_of_end right.spot.x right.spot.n is'.sized.some line)

  before_line : (line : ℕ) → left.spot.x < 16 * line * left.spot.n → left.column < line
  before_line line h = by_spot left is (λ (m : Mark). m.column < line) (column_least left.spot.x left.spot.n is.sized.some line h)

  before_end : (line : ℕ) → 16 * line * right.spot.n < right.spot.x → line < right.end
  before_end line h = by_spot right is' (λ (m : Mark). line < m.end) (end_most right.spot.x right.spot.n is'.sized.some line h)

  -- there are none where the second is in no later column
  pub no_lines : right.column ≤ left.column → (bounds : List Bound) → AreAboutCrossings left.spot right.spot bounds
  no_lines later bounds k x p q beside inside = absurd (omega (arith, later, before_line k p, before_end k q, short))
    where
      short : right.end ≤ right.column + 1
      short = by_spot right is' (λ (m : Mark). m.end ≤ m.column + 1)
          (end_least right.spot.x right.spot.n is'.sized.some (right.spot.x / (16 * right.spot.n) + 1) (omega (arith, column_right right.spot.x right.spot.n is'.sized.some)))

  -- none before the first
  pub none_yet : (line : ℕ) (bounds : List Bound) → line ≡ left.column + 1 → AreAboutLines left.spot right.spot line bounds
  none_yet line bounds e k x p q less beside inside = absurd (omega (arith, before_line k p))

  -- all once the lines are over
  pub all_lines : (line end : ℕ) (bounds : List Bound) → end ≤ line → end ≡ min right.end (length bounds + 1) → AreAboutLines left.spot right.spot line bounds → AreAboutCrossings left.spot right.spot bounds
  all_lines line end bounds over e lines k x p q beside inside = lines k x p q (elim beside [ inl here ↦ omega (arith, before_end k q) | inr next ↦ omega (arith, before_end k q) ]) beside inside

  module _ (line : ℕ) (before : left.spot.x < 16 * line * left.spot.n) (behind : 16 * line * right.spot.n < right.spot.x) (low high : ℕ) (height : IsHeight left.spot right.spot line low high)
      (bounds once both : List Bound) (e : once ≡ put_at bounds (line - 1) low high) (f : both ≡ put_at once line low high) where
    some : 1 ≤ (line_crossing left.spot right.spot line).n
    some = crossing_some left.spot right.spot line before behind is.sized.some

    under : low * (line_crossing left.spot right.spot line).n ≤ (line_crossing left.spot right.spot line).y
    under = subst (λ (n : ℕ). n * (line_crossing left.spot right.spot line).n ≤ (line_crossing left.spot right.spot line).y) (sym height.floor) (quotient_times _ _)

    above : (line_crossing left.spot right.spot line).y ≤ high * (line_crossing left.spot right.spot line).n
    above = subst (λ (n : ℕ). (line_crossing left.spot right.spot line).y ≤ n * (line_crossing left.spot right.spot line).n) (sym height.ceiling) (ceiling_times _ _ some)

    first : IsWider bounds once
    first = subst (IsWider bounds) (sym e) (put_wider bounds (line - 1) low high)

    second : IsWider once both
    second = subst (IsWider once) (sym f) (put_wider once line low high)

    pub line_wider : IsWider bounds both
    line_wider = wider_then bounds once both first second

    over : (tri : Tri) (z x : ℕ) → IsSpotOf tri z left.spot → IsSpotOf tri z right.spot → 16 * x ≤ 16 * line → 16 * line ≤ 16 * x + 16 → IsHeightOver tri x z low high
    over tri z x p q after until = subst (λ (n : ℕ). IsHeightOver tri x z n high) (sym height.floor) (subst (λ (n : ℕ). IsHeightOver tri x z ((line_crossing left.spot right.spot line).y / (line_crossing left.spot right.spot line).n) n) (sym height.ceiling)
        (spot_height tri x z (line_crossing left.spot right.spot line) (line_spot tri z line left.spot right.spot before behind p q) (crossing_low left.spot right.spot line before behind is.sized is'.sized)
        (times_le (16 * x) (16 * line) (line_crossing left.spot right.spot line).n after) (times_le (16 * line) (16 * x + 16) (line_crossing left.spot right.spot line).n until)))

    pub line_filled : 1 ≤ line → (tri : Tri) (z : ℕ) → IsSpotOf tri z left.spot → IsSpotOf tri z right.spot → StaysFilled tri z bounds both
    line_filled one tri z p q x filled = subst (λ (bs : List Bound). StaysFilled tri z once bs) (sym f) (put_filled tri z once line low high (over tri z line p q (omega arith) (omega arith))) x
        (subst (λ (bs : List Bound). StaysFilled tri z bounds bs) (sym e) (put_filled tri z bounds (line - 1) low high (over tri z (line - 1) p q (omega arith) (omega (arith, one)))) x filled)

    pub one_line : AreAboutLines left.spot right.spot line bounds → AreAboutLines left.spot right.spot (line + 1) both
    one_line lines k x p q less beside inside = elim (cases_lt k line) [
      | inl earlier ↦ about_later (line_crossing left.spot right.spot k) x bounds both line_wider (lines k x p q earlier beside (omega (arith, inside, line_wider.same)))
      | inr later ↦ let here : k ≡ line = omega arith in
          subst (λ (l : ℕ). IsAbout (line_crossing left.spot right.spot l) (bound_at both x)) (sym here) (elim beside [
            | inl same ↦ subst (λ (bs : List Bound). IsAbout (line_crossing left.spot right.spot line) (bound_at bs x)) (sym f) (put_about (line_crossing left.spot right.spot line) once line low high x (omega arith) (omega (arith, inside, second.same)) under above)
            | inr next ↦ about_later (line_crossing left.spot right.spot line) x once both second (subst (λ (bs : List Bound). IsAbout (line_crossing left.spot right.spot line) (bound_at bs x)) (sym e) (put_about (line_crossing left.spot right.spot line) bounds (line - 1) low high x (omega arith) (omega (arith, inside, line_wider.same)) under above))
          ])
    ]

  -- ---- each height into the column left of its line together with that of the line before

  one_more : (line : ℕ) → left.column < line → line < right.end → (low high : ℕ) → IsHeight left.spot right.spot line low high → (old bounds : List Bound) → AreWidenedUpTo left right line old bounds
      → AreWidenedUpTo left right (line + 1) old (put_at (put_at bounds (line - 1) low high) line low high)
  one_more line before behind low high height old bounds so_far = record {
    wider = wider_then old bounds _ so_far.wider (line_wider line (lies_right line before) (lies_left line behind) low high height bounds _ _ refl refl);
    filled = λ tri z p q x there. line_filled line (lies_right line before) (lies_left line behind) low high height bounds _ _ refl refl (omega (arith, before)) tri z p q x (so_far.filled tri z p q x there);
    about = one_line line (lies_right line before) (lies_left line behind) low high height bounds _ _ refl refl so_far.about;
  }

  -- where the next line is the one behind
  behind_it : (line low high : ℕ) (old once : List Bound) → AreWidenedUpTo left right (line + 1) old (put_at once line low high) → AreWidenedUpTo left right (line + 1) old (put_at once (line + 1 - 1) low high)
  behind_it line low high old once =
      let same : line ≡ line + 1 - 1 = omega arith in
      subst (λ (k : ℕ). AreWidenedUpTo left right (line + 1) old (put_at once k low high)) same

  pub none_widened : (line : ℕ) (bounds : List Bound) → line ≡ left.column + 1 → AreWidenedUpTo left right line bounds bounds
  none_widened line bounds e = record { wider = no_wider bounds; filled = λ tri z p q x there. there; about = none_yet line bounds e }

  pub first_widened : (line low high : ℕ) (old once : List Bound) → line ≡ left.column + 1 → line < right.end → IsHeight left.spot right.spot line low high → once ≡ put_at old (line - 1) low high
      → AreWidenedUpTo left right (line + 1) old (put_at once (line + 1 - 1) low high)
  first_widened line low high old once e behind height is_once = behind_it line low high old once
      (subst (λ (bs : List Bound). AreWidenedUpTo left right (line + 1) old (put_at bs line low high)) (sym is_once) (one_more line (omega (arith, e)) behind low high height old old (none_widened line old e)))

  pub next_widened : (line low high next_low next_high least most : ℕ) (old bounds once : List Bound) → left.column < line → line < right.end → IsHeight left.spot right.spot line next_low next_high
      → AreWidenedUpTo left right line old (put_at bounds (line - 1) low high) → least ≡ min low next_low → most ≡ max high next_high → once ≡ put_at bounds (line - 1) least most
      → AreWidenedUpTo left right (line + 1) old (put_at once (line + 1 - 1) next_low next_high)
  next_widened line low high next_low next_high least most old bounds once before behind height so_far e f is_once = behind_it line next_low next_high old once
      (subst (λ (bs : List Bound). AreWidenedUpTo left right (line + 1) old (put_at bs line next_low next_high)) same (one_more line before behind next_low next_high height old (put_at bounds (line - 1) low high) so_far))
    where
      same : put_at (put_at bounds (line - 1) low high) (line - 1) next_low next_high ≡ once
      same = put_twice bounds (line - 1) low high next_low next_high ∙ sym (is_once ∙ ap (λ (n : ℕ). put_at bounds (line - 1) n most) e ∙ ap (λ (n : ℕ). put_at bounds (line - 1) (min low next_low) n) f)

  pub last_widened : (line end low high : ℕ) (old bounds new : List Bound) → line ≡ end → AreWidenedUpTo left right line old (put_at bounds (line - 1) low high) → new ≡ put_at bounds (end - 1) low high
      → AreWidenedUpTo left right line old new
  last_widened line end low high old bounds new e so_far is_new = subst (AreWidenedUpTo left right line old) (ap (λ (n : ℕ). put_at bounds (n - 1) low high) e ∙ sym is_new) so_far
