-- The laws of the lines behind the header: what is read is spelled so, and what is spelled so is read.
use Rattle.std.proofs.Common.{◌≢◌, ◌≡◌, ℕ, ◌-◌, ◌<◌, ◌≤◌, ◌⊎◌, false, cond, not, ◌||◌, ◌&&◌, ◌==◌, nat_lt, nat_le, bytes_eq, List, [], ◌∷◌, length, slice_index, slice_get, codes, Option, Some, None, refl, ap, ap₂, subst, ◌∙◌, inl, inr, ⊎_elim, arith}
use Rattle.std.specs.Prelude.{⊤}
use Rattle.std.proofs.lemmas.Bool.{and_from, eq-eqb, or_parts, and_right, cond_both, cond-true, cond-false, ltb-false, leb-false, cases_order, ne_eqb}
use Rattle.std.proofs.lemmas.Bool.Decides.{nat_tests}
use Rattle.std.proofs.lemmas.Slice.Eq.{bytes_eq-Decides}
use Rattle.nav_ground.specs.declared.field.Span.{Span}
use Rattle.nav_ground.specs.Fields.{IsSpan, IsSmallSpan, IsSpanBefore}
use Rattle.nav_text.specs.declared.fault.FaultKind.TheVariants.{Form, Range, Order, Overlap, TooMany}
use Rattle.nav_text.specs.Forms.{line_text, numbers_of, has_word}
use Rattle.nav_text.proofs.FormLaws.{numbers_take, numbers_again, has_word-numbers}
use Rattle.nav_text.proofs.Inversions.{two_is, five_is}
use Rattle.span_text.specs.declared.body.BodyLine.{BodyLine}
use Rattle.span_text.specs.declared.body.BodyLine.TheVariants.{Cost, Spans, End, Fails}
use Rattle.span_text.specs.FieldText.{span_text}
use Rattle.nav_ground.specs.Shapes.{is_in}
use Rattle.span_text.specs.Body.{cost_in, span_of, is_span, is_column_before, is_column_of, span_after, span_in, other_line, header_line, span_or_other, body_line}

-- a span comes after the last one, where there is one
abbrev pub IsAfter : Option Span → Span → Type 0
IsAfter None span = ⊤
IsAfter (Some last) span = IsSpanBefore last span

abbrev pub last_of : List Span → Option Span
last_of spans = slice_get spans (length spans - 1)

-- a line that is read as a cost, a span or the end is spelled so, and within its limits
abbrev pub Says : (width depth before count : ℕ) (last : Option Span) (line : List ℕ) → BodyLine → Type 0
Says width depth before count last line (Cost area cost) =
    (count ≡ 0) × (line ≡ line_text (codes "cost") (area ∷ cost ∷ [])) × (before < area) × (area ≤ 63) × (1 ≤ cost) × (cost ≤ 1000)
Says width depth before count last line (Spans span) = (count ≢ 2000000) × (line ≡ span_text span) × IsSpan width depth span × IsAfter last span
Says width depth before count last line End = line ≡ codes "end"
Says width depth before count last line (Fails kind) = ⊤

in_range : (low high n : ℕ) → not (is_in low high n) ≡ false → (low ≤ n) × (n ≤ high)
in_range low high n h = grind (arith, nat_tests)

pub cost_says : (width depth before count : ℕ) (last : Option Span) (line : List ℕ) → count ≡ 0 → Says width depth before count last line (cost_in before (numbers_of (codes "cost") 2 line))
cost_says width depth before count last line none = of_numbers (numbers_of (codes "cost") 2 line) refl
  where
    of_numbers : (numbers : Option (List ℕ)) → numbers_of (codes "cost") 2 line ≡ numbers → Says width depth before count last line (cost_in before numbers)
    of_numbers None is = tt
    of_numbers (Some numbers) is =
        let form = numbers_take (codes "cost") 2 line numbers is in
        cond_both (not (is_in 1 63 (slice_index numbers 0)) || not (is_in 1 1000 (slice_index numbers 1))) (Fails Range) _ (Says width depth before count last line) (λ bad. tt)
        (λ good. cond_both (nat_le (slice_index numbers 0) before) (Fails Order) (Cost (slice_index numbers 0) (slice_index numbers 1)) (Says width depth before count last line) (λ behind. tt)
        (λ further.
        let tests = or_parts (not (is_in 1 63 (slice_index numbers 0))) (not (is_in 1 1000 (slice_index numbers 1))) good in
        let area = in_range 1 63 (slice_index numbers 0) tests.0 in
        let cost = in_range 1 1000 (slice_index numbers 1) tests.1 in (
          none,
          form.0 ∙ ap (line_text (codes "cost")) (two_is numbers form.1),
          leb-false _ _ further,
          area.1,
          cost.0,
          cost.1,
        )))

other_says : (width depth before count : ℕ) (last : Option Span) (line : List ℕ) → Says width depth before count last line (other_line before count line)
unfolding other_line
other_says width depth before count last line =
    cond_both (bytes_eq line (codes "end")) End _ (Says width depth before count last line) (λ same. (bytes_eq-Decides line (codes "end")).0 same)
    (λ other. cond_both (nat_lt 0 count) (Fails Form) _ (Says width depth before count last line) (λ some. tt)
    (λ none. let zero = ltb-false 0 count none in cost_says width depth before count last line (omega arith)))

-- a span that is neither before the last nor overlaps it comes after it
after_from_tests : (z x bottom last_z last_x top : ℕ) → (nat_lt z last_z || z == last_z && nat_lt x last_x) ≡ false → ((z == last_z && x == last_x) && nat_lt bottom top) ≡ false
    → (last_z < z) ⊎ ((last_z ≡ z) × ((last_x < x) ⊎ ((last_x ≡ x) × (top ≤ bottom))))
after_from_tests z x bottom last_z last_x top order overlap =
    ⊎_elim
    (λ same_z. ⊎_elim
    (λ same_x. inr (same_z, inr (same_x, top_below z x bottom last_z last_x top same_z same_x overlap)))
    (λ x_order. ⊎_elim
    (λ further. inr (same_z, inl further))
    (λ behind. absurd (no_earlier_x z x last_z last_x same_z behind order))
    x_order)
    (cases_order last_x x))
    (λ z_order. ⊎_elim (λ further. inl further) (λ behind. absurd (no_earlier_z z x last_z last_x behind order)) z_order)
    (cases_order last_z z)
  where
    top_below : (z x bottom last_z last_x top : ℕ) → last_z ≡ z → last_x ≡ x → ((z == last_z && x == last_x) && nat_lt bottom top) ≡ false → top ≤ bottom
    top_below z x bottom last_z last_x top same_z same_x overlap = grind (arith, nat_tests)

    no_earlier_x : (z x last_z last_x : ℕ) → last_z ≡ z → x < last_x → (nat_lt z last_z || z == last_z && nat_lt x last_x) ≡ false → ⊥
    no_earlier_x z x last_z last_x same_z behind order = grind (arith, nat_tests)

    no_earlier_z : (z x last_z last_x : ℕ) → z < last_z → (nat_lt z last_z || z == last_z && nat_lt x last_x) ≡ false → ⊥
    no_earlier_z z x last_z last_x behind order = grind (arith, nat_tests)

after_says : (width depth before count : ℕ) (last : Option Span) (line : List ℕ) (span : Span) → count ≢ 2000000 → line ≡ span_text span → IsSpan width depth span
    → Says width depth before count last line (span_after last span)
after_says width depth before count None line span room spelled fits = (room, spelled, fits, tt)
after_says width depth before count (Some last) line span room spelled fits =
    cond_both (is_column_before span last) (Fails Order) _ (Says width depth before count (Some last) line) (λ behind. tt)
    (λ order. cond_both (is_column_of span last && nat_lt span.bottom last.top) (Fails Overlap) (Spans span) (Says width depth before count (Some last) line) (λ over. tt)
    (λ apart. (room, spelled, fits, after_from_tests span.z span.x span.bottom last.z last.x last.top order apart)))

span_limits : (width depth : ℕ) (span : Span) → not (is_span width depth span) ≡ false → IsSpan width depth span
span_limits width depth span good =
    let told = limits width depth span.x span.z span.bottom span.top span.area good in
    record { x = told.0; z = told.1; solid = told.2; top = told.3; area = told.4 }
  where
    limits : (width depth x z bottom top area : ℕ) → not (nat_lt x width && nat_lt z depth && nat_lt bottom top && nat_le top 8191 && nat_le area 63) ≡ false
        → (x < width) × (z < depth) × (bottom < top) × (top ≤ 8191) × (area ≤ 63)
    limits width depth x z bottom top area good = (
      grind (arith, nat_tests),
      grind (arith, nat_tests),
      grind (arith, nat_tests),
      grind (arith, nat_tests),
      grind (arith, nat_tests),
    )

span_says : (width depth before count : ℕ) (last : Option Span) (line numbers : List ℕ) → count ≢ 2000000 → numbers_of (codes "span") 5 line ≡ Some numbers
    → Says width depth before count last line (span_in width depth last (span_of numbers))
span_says width depth before count last line numbers room is =
    let form = numbers_take (codes "span") 5 line numbers is in
    cond_both (not (is_span width depth (span_of numbers))) (Fails Range) (span_after last (span_of numbers)) (Says width depth before count last line) (λ bad. tt)
    (λ good. after_says width depth before count last line (span_of numbers) room (form.0 ∙ ap (line_text (codes "span")) (five_is numbers form.1)) (span_limits width depth (span_of numbers) good))

-- What is read of a line behind the header is spelled so.
pub body_says : (width depth before : ℕ) (spans : List Span) (line : List ℕ)
    → Says width depth before (length spans) (last_of spans) line (body_line width depth before spans line)
unfolding body_line
body_says width depth before spans line =
    cond_both (length spans == 2000000 && has_word (codes "span") line) (Fails TooMany) _ (Says width depth before (length spans) (last_of spans) line) (λ many. tt)
    (λ room. of_numbers room (numbers_of (codes "span") 5 line) refl)
  where
    of_numbers : (length spans == 2000000 && has_word (codes "span") line) ≡ false → (numbers : Option (List ℕ)) → numbers_of (codes "span") 5 line ≡ numbers
        → Says width depth before (length spans) (last_of spans) line (span_or_other width depth before spans line numbers)
    of_numbers room None is = other_says width depth before (length spans) (last_of spans) line
    of_numbers room (Some numbers) is =
        span_says width depth before (length spans) (last_of spans) line numbers
        (λ full. let both = and_from _ _ (eq-eqb (length spans) 2000000 full) (has_word-numbers (codes "span") 4 line numbers is) in absurd cc) is

-- A span that is read in a field of at most 1024 columns a side fits ten bytes.
pub small_said : (width depth before : ℕ) (spans : List Span) (line : List ℕ) (span : Span) → body_line width depth before spans line ≡ Spans span
    → (width ≤ 1024) × (depth ≤ 1024) → IsSmallSpan span
small_said width depth before spans line span is sides =
    let said = subst (Says width depth before (length spans) (last_of spans) line) is (body_says width depth before spans line) in
    small said.2
  where
    small : IsSpan width depth span → IsSmallSpan span
    small rules' = record {
      x = omega (arith, rules'.x, sides.0);
      z = omega (arith, rules'.z, sides.1);
      bottom = omega (arith, rules'.solid, rules'.top);
      top = omega (arith, rules'.top);
      area = omega (arith, rules'.area);
    }

-- The `end` line is read as the end.
pub end_again : (width depth before : ℕ) (spans : List Span) → body_line width depth before spans (codes "end") ≡ End
unfolding body_line other_line numbers_of
end_again width depth before spans = cond-false (length spans == 2000000 && false) (Fails TooMany) End (and_right (length spans == 2000000) false refl)

-- A cost line is read as that cost.
pub cost_in_again : (before area cost : ℕ) → before < area → area ≤ 63 → 1 ≤ cost → cost ≤ 1000
    → cost_in before (numbers_of (codes "cost") 2 (line_text (codes "cost") (area ∷ cost ∷ []))) ≡ Cost area cost
cost_in_again before area cost further most least few =
    ap (cost_in before) (numbers_again (codes "cost") (area ∷ cost ∷ []) (omega arith, (omega arith, tt)))
    ∙ ap₂ (λ a b. cond a (Fails Range) (cond b (Fails Order) (Cost area cost))) (in_limits area cost (omega arith) most least few) (not_behind before area further)
  where
    in_limits : (area cost : ℕ) → 1 ≤ area → area ≤ 63 → 1 ≤ cost → cost ≤ 1000 → (not (is_in 1 63 area) || not (is_in 1 1000 cost)) ≡ false
    in_limits area cost a b c d = grind (arith, nat_tests)

    not_behind : (before area : ℕ) → before < area → nat_le area before ≡ false
    not_behind before area further = grind (arith, nat_tests)

-- The same before all spans.
pub cost_again : (width depth before area cost : ℕ) → before < area → area ≤ 63 → 1 ≤ cost → cost ≤ 1000
    → body_line width depth before [] (line_text (codes "cost") (area ∷ cost ∷ [])) ≡ Cost area cost
unfolding body_line other_line numbers_of
cost_again width depth before area cost further most least few = cost_in_again before area cost further most least few

-- a line behind those of the setting is a cost, or its first word is another, or it fails
abbrev pub HeaderSays : (before : ℕ) (line : List ℕ) → BodyLine → Type 0
HeaderSays before line (Cost area cost) = (line ≡ line_text (codes "cost") (area ∷ cost ∷ [])) × (before < area) × (area ≤ 63) × (1 ≤ cost) × (cost ≤ 1000)
HeaderSays before line (Spans span) = ⊥
HeaderSays before line End = has_word (codes "cost") line ≡ false
HeaderSays before line (Fails kind) = ⊤

header_cost : (before : ℕ) (line : List ℕ) → HeaderSays before line (cost_in before (numbers_of (codes "cost") 2 line))
header_cost before line = of_numbers (numbers_of (codes "cost") 2 line) refl
  where
    joined : (told : BodyLine) → told ≡ Fails Order ⊎ (told ≡ Fails Range ⊎ ((area : ℕ) × (cost : ℕ) × (told ≡ Cost area cost))) → Says 0 0 before 0 None line told → HeaderSays before line told
    joined (Cost area cost) kind says = (says.1, says.2, says.3, says.4, says.5)
    joined (Spans span) kind says = elim kind [ inl a ↦ absurd cc | inr (inl b) ↦ absurd cc | inr (inr c) ↦ (let e = c.2 in absurd cc) ]
    joined End kind says = elim kind [ inl a ↦ absurd cc | inr (inl b) ↦ absurd cc | inr (inr c) ↦ (let e = c.2 in absurd cc) ]
    joined (Fails kind) which says = tt

    of_numbers : (numbers : Option (List ℕ)) → numbers_of (codes "cost") 2 line ≡ numbers → HeaderSays before line (cost_in before numbers)
    of_numbers None is = tt
    of_numbers (Some numbers) is =
        let told = cost_in before (Some numbers) in
        let said = subst (λ o. Says 0 0 before 0 None line (cost_in before o)) is (cost_says 0 0 before 0 None line refl) in
        joined told
        (cond_both (not (is_in 1 63 (slice_index numbers 0)) || not (is_in 1 1000 (slice_index numbers 1))) (Fails Range) _
        (λ t. t ≡ Fails Order ⊎ (t ≡ Fails Range ⊎ ((area : ℕ) × (cost : ℕ) × (t ≡ Cost area cost)))) (λ bad. inr (inl refl))
        (λ good. cond_both (nat_le (slice_index numbers 0) before) (Fails Order) (Cost (slice_index numbers 0) (slice_index numbers 1))
        (λ t. t ≡ Fails Order ⊎ (t ≡ Fails Range ⊎ ((area : ℕ) × (cost : ℕ) × (t ≡ Cost area cost)))) (λ behind. inl refl)
        (λ further. inr (inr (slice_index numbers 0, slice_index numbers 1, refl)))))
        said

pub header_says : (before : ℕ) (line : List ℕ) → HeaderSays before line (header_line before line)
unfolding header_line
header_says before line =
    cond_both (has_word (codes "cost") line) (cost_in before (numbers_of (codes "cost") 2 line)) End (HeaderSays before line) (λ cost. header_cost before line) (λ other. other)

-- A cost line is read as that cost in a header, and a line with another first word as its end.
pub header_cost_again : (before area cost : ℕ) → before < area → area ≤ 63 → 1 ≤ cost → cost ≤ 1000
    → header_line before (line_text (codes "cost") (area ∷ cost ∷ [])) ≡ Cost area cost
unfolding header_line
header_cost_again before area cost further most least few =
    let numbers = area ∷ cost ∷ [] in
    let again = numbers_again (codes "cost") numbers (omega arith, (omega arith, tt)) in
    cond-true (has_word (codes "cost") (line_text (codes "cost") numbers)) (cost_in before (numbers_of (codes "cost") 2 (line_text (codes "cost") numbers))) End
    (has_word-numbers (codes "cost") 1 (line_text (codes "cost") numbers) numbers again) ∙ cost_in_again before area cost further most least few

pub header_end_again : (before : ℕ) (line : List ℕ) → has_word (codes "cost") line ≡ false → header_line before line ≡ End
unfolding header_line
header_end_again before line other = cond-false (has_word (codes "cost") line) (cost_in before (numbers_of (codes "cost") 2 line)) End other

tests_from_after : (z x bottom last_z last_x top : ℕ) → (last_z < z) ⊎ ((last_z ≡ z) × ((last_x < x) ⊎ ((last_x ≡ x) × (top ≤ bottom))))
    → ((nat_lt z last_z || z == last_z && nat_lt x last_x) ≡ false) × (((z == last_z && x == last_x) && nat_lt bottom top) ≡ false)
tests_from_after z x bottom last_z last_x top after =
    ⊎_elim (by_z z x bottom last_z last_x top)
    (λ same. ⊎_elim (by_x z x bottom last_z last_x top same.0) (λ column. (by_top z x bottom last_z last_x top same.0 column.0 column.1)) same.1)
    after
  where
    by_z : (z x bottom last_z last_x top : ℕ) → last_z < z
        → ((nat_lt z last_z || z == last_z && nat_lt x last_x) ≡ false) × (((z == last_z && x == last_x) && nat_lt bottom top) ≡ false)
    by_z z x bottom last_z last_x top h = (grind (arith, nat_tests), grind (arith, nat_tests))

    by_x : (z x bottom last_z last_x top : ℕ) → last_z ≡ z → last_x < x
        → ((nat_lt z last_z || z == last_z && nat_lt x last_x) ≡ false) × (((z == last_z && x == last_x) && nat_lt bottom top) ≡ false)
    by_x z x bottom last_z last_x top same h = (grind (arith, nat_tests), grind (arith, nat_tests))

    by_top : (z x bottom last_z last_x top : ℕ) → last_z ≡ z → last_x ≡ x → top ≤ bottom
        → ((nat_lt z last_z || z == last_z && nat_lt x last_x) ≡ false) × (((z == last_z && x == last_x) && nat_lt bottom top) ≡ false)
    by_top z x bottom last_z last_x top same column h = (grind (arith, nat_tests), grind (arith, nat_tests))

after_again : (last : Option Span) (span : Span) → IsAfter last span → span_after last span ≡ Spans span
after_again None span after = refl
after_again (Some last) span after =
    let tests = tests_from_after span.z span.x span.bottom last.z last.x last.top after in
    ap₂ (λ a b. cond a (Fails Order) (cond b (Fails Overlap) (Spans span))) tests.0 tests.1

within_limits : (width depth x z bottom top area : ℕ) → x < width → z < depth → bottom < top → top ≤ 8191 → area ≤ 63
    → not (nat_lt x width && nat_lt z depth && nat_lt bottom top && nat_le top 8191 && nat_le area 63) ≡ false
within_limits width depth x z bottom top area a b c d e = grind (arith, nat_tests)

-- A span line after the spans before it is read as that span, where there is room.
pub span_again : (width depth before : ℕ) (spans : List Span) (span : Span) → width ≤ 1024 → depth ≤ 1024 → length spans < 2000000 → IsSpan width depth span
    → IsAfter (last_of spans) span → body_line width depth before spans (span_text span) ≡ Spans span
unfolding body_line
span_again width depth before spans span wide deep room fits after =
    let x : span.x < width = fits.x in
    let z : span.z < depth = fits.z in
    let solid : span.bottom < span.top = fits.solid in
    let top : span.top ≤ 8191 = fits.top in
    let area : span.area ≤ 63 = fits.area in
    let numbers = span.x ∷ span.z ∷ span.bottom ∷ span.top ∷ span.area ∷ [] in
    ap (λ b. cond (b && has_word (codes "span") (span_text span)) (Fails TooMany) (span_or_other width depth before spans (span_text span) (numbers_of (codes "span") 5 (span_text span))))
    (ne_eqb (length spans) 2000000 (λ e. omega arith))
    ∙ (ap (span_or_other width depth before spans (span_text span)) (numbers_again (codes "span") numbers (omega arith, (omega arith, (omega arith, (omega arith, (omega arith, tt))))))
    ∙ (ap (λ b. cond b (Fails Range) (span_after (last_of spans) span)) (within_limits width depth span.x span.z span.bottom span.top span.area x z solid top area)
    ∙ after_again (last_of spans) span after))
