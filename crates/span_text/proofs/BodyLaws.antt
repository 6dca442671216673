-- The laws of the lines behind the header.
use Rattle.std.proofs.Common.{nat_lt, bytes_eq, Bool, true, false, cond, not, ◌||◌, nat_le, slice_index, codes, inl, inr, ◌≡◌, ℕ, ◌+◌, ◌-◌, ◌<◌, ◌≤◌, List, [], ◌∷◌, ◌++◌, length, take, Option, Ok, Err, Some, None, sym, ap, ◌∙◌, subst, arith}
use Rattle.nav_ground.specs.declared.setting.Setting.{Setting}
use Rattle.nav_ground.specs.declared.field.Span.{Span}
use Rattle.nav_text.specs.declared.fault.FaultKind.{FaultKind}
use Rattle.nav_text.specs.declared.fault.FaultKind.TheVariants.{Form, Order, Unfinished}
use Rattle.nav_text.specs.Faults.{fault_at}
use Rattle.nav_text.specs.Lines.{lines, text_of, IsPast}
use Rattle.nav_text.specs.Reading.{read, read_on}
use Rattle.nav_text.specs.Forms.{numbers_of}
use Rattle.nav_text.proofs.LineLaws.{IsPast_next, IsPast-used}
use Rattle.std.proofs.lemmas.Bool.{cases_Bool, cond-true, cond-false, leb-false}
use Rattle.std.proofs.lemmas.Bool.Decides.{nat_tests}
use Rattle.std.proofs.lemmas.List.{length_push}
use Rattle.span_text.specs.declared.body.BodyLine.{BodyLine}
use Rattle.span_text.specs.declared.body.BodyLine.TheVariants.{Cost, Spans, End, Fails}
use Rattle.span_text.specs.Body.{body_line, other_line, cost_in, Fits}
use Rattle.nav_ground.specs.Shapes.{is_in}
use Rattle.span_text.specs.FieldFormat.{AtBody, field_format, field_of, body_verdict, set_cost}
use Rattle.span_text.specs.Words.{field_with}

-- reading has come to a line behind the header: `count` lines are read, and reading goes on with the rest
pub record HasRead (bytes rest : List ℕ) (setting : Setting) (before : ℕ) (spans : List Span) (count : ℕ) : Type 0 where
  pub past : IsPast bytes rest count
  pub reads : field_of bytes ≡ read field_format (AtBody setting before spans) count (lines rest)
  pub area : before ≤ 63
  pub few : length spans ≤ 2000000
  pub sides : (setting.width ≤ 1024) × (setting.depth ≤ 1024)
  pub counted : count ≤ 8 + before + length spans

-- the next line behind the header
next_line : (bytes rest : List ℕ) (setting : Setting) (before : ℕ) (spans : List Span) (count : ℕ) (line after : List ℕ) (said : BodyLine)
    → HasRead bytes rest setting before spans count → lines rest ≡ line ∷ lines after → body_line setting.width setting.depth before spans line ≡ said
    → field_of bytes ≡ read_on (body_verdict setting before spans said) count (λ next. read field_format next (count + 1) (lines after))
unfolding read
next_line bytes rest setting before spans count line after said has those is =
    has.reads ∙ (ap (read field_format (AtBody setting before spans) count) those
    ∙ ap (λ s. read_on (body_verdict setting before spans s) count (λ next. read field_format next (count + 1) (lines after))) is)

pub HasRead_cost : (bytes rest : List ℕ) (setting : Setting) (before : ℕ) (spans : List Span) (count : ℕ) (line after : List ℕ) (area cost : ℕ)
    → HasRead bytes rest setting before spans count → lines rest ≡ line ∷ lines after → rest ≡ line ++ 10 ∷ after
    → body_line setting.width setting.depth before spans line ≡ Cost area cost → before < area → area ≤ 63
    → HasRead bytes after (set_cost setting area cost) area spans (count + 1)
HasRead_cost bytes rest setting before spans count line after area cost has those spelled is further most =
    let counted : count ≤ 8 + before + length spans = has.counted in record {
      past = IsPast_next bytes rest count line after has.past those spelled;
      reads = next_line bytes rest setting before spans count line after (Cost area cost) has those is;
      area = most;
      few = has.few;
      sides = has.sides;
      counted = omega arith;
    }

pub HasRead_span : (bytes rest : List ℕ) (setting : Setting) (before : ℕ) (spans : List Span) (count : ℕ) (line after : List ℕ) (span : Span)
    → HasRead bytes rest setting before spans count → lines rest ≡ line ∷ lines after → rest ≡ line ++ 10 ∷ after
    → body_line setting.width setting.depth before spans line ≡ Spans span → length spans < 2000000
    → HasRead bytes after setting before (spans ++ span ∷ []) (count + 1)
HasRead_span bytes rest setting before spans count line after span has those spelled is room =
    let counted : count ≤ 8 + before + length spans = has.counted in
    let longer = length_push spans span in record {
      past = IsPast_next bytes rest count line after has.past those spelled;
      reads = next_line bytes rest setting before spans count line after (Spans span) has those is;
      area = has.area;
      few = omega arith;
      sides = has.sides;
      counted = omega arith;
    }

-- the `end` line
pub read_end_line : (bytes rest : List ℕ) (setting : Setting) (before : ℕ) (spans : List Span) (count : ℕ) (line after : List ℕ)
    → HasRead bytes rest setting before spans count → lines rest ≡ line ∷ lines after → rest ≡ line ++ 10 ∷ after
    → body_line setting.width setting.depth before spans line ≡ End
    → (field_of bytes ≡ Ok ((setting, field_with setting spans), count + 1))
    × (take (length bytes - length after) bytes ≡ text_of (take (count + 1) (lines bytes)))
read_end_line bytes rest setting before spans count line after has those spelled is = (
  next_line bytes rest setting before spans count line after End has those is,
  (IsPast-used bytes after (count + 1) (IsPast_next bytes rest count line after has.past those spelled)).0,
)

-- a line that fails, and lines that end too early
pub read_bad_line : (bytes rest : List ℕ) (setting : Setting) (before : ℕ) (spans : List Span) (count : ℕ) (line after : List ℕ) (kind : FaultKind)
    → HasRead bytes rest setting before spans count → lines rest ≡ line ∷ lines after
    → body_line setting.width setting.depth before spans line ≡ Fails kind → field_of bytes ≡ Err (fault_at (count + 1) kind)
read_bad_line bytes rest setting before spans count line after kind has those is =
    next_line bytes rest setting before spans count line after (Fails kind) has those is

pub read_no_line : (bytes rest : List ℕ) (setting : Setting) (before : ℕ) (spans : List Span) (count : ℕ)
    → HasRead bytes rest setting before spans count → lines rest ≡ [] → field_of bytes ≡ Err (fault_at (count + 1) Unfinished)
unfolding read
read_no_line bytes rest setting before spans count has none = has.reads ∙ ap (read field_format (AtBody setting before spans) count) none

-- a line that is no span is a cost of a further area, `end`, or fails
fits_choice : (before count : ℕ) (b : Bool) (x y : BodyLine) → Fits before count x → Fits before count y → Fits before count (cond b x y)
fits_choice before count true x y hx hy = hx
fits_choice before count false x y hx hy = hy

area_most : (area cost : ℕ) → (not (is_in 1 63 area) || not (is_in 1 1000 cost)) ≡ false → area ≤ 63
area_most area cost good = grind (arith, nat_tests)

fits_further : (before count : ℕ) (numbers : List ℕ) → (not (is_in 1 63 (slice_index numbers 0)) || not (is_in 1 1000 (slice_index numbers 1))) ≡ false
    → Fits before count (cond (nat_le (slice_index numbers 0) before) (Fails Order) (Cost (slice_index numbers 0) (slice_index numbers 1)))
fits_further before count numbers good =
    elim (cases_Bool (nat_le (slice_index numbers 0) before)) [
      | inl behind ↦ subst (Fits before count) (sym (cond-true _ _ _ behind)) tt
      | inr further ↦ subst (Fits before count) (sym (cond-false _ _ _ further)) (leb-false _ _ further, area_most (slice_index numbers 0) (slice_index numbers 1) good)
    ]

fits_cost : (before count : ℕ) (numbers : Option (List ℕ)) → Fits before count (cost_in before numbers)
fits_cost before count None = tt
fits_cost before count (Some numbers) =
    elim (cases_Bool (not (is_in 1 63 (slice_index numbers 0)) || not (is_in 1 1000 (slice_index numbers 1)))) [
      | inl bad ↦ subst (Fits before count) (sym (cond-true _ _ _ bad)) tt
      | inr good ↦ subst (Fits before count) (sym (cond-false _ _ _ good)) (fits_further before count numbers good)
    ]

pub fits_other : (before count : ℕ) (line : List ℕ) → Fits before count (other_line before count line)
unfolding other_line
fits_other before count line =
    let cost = cost_in before (numbers_of (codes "cost") 2 line) in
    let behind = cond (nat_lt 0 count) (Fails Form) cost in
    fits_choice before count (bytes_eq line (codes "end")) End behind tt (fits_choice before count (nat_lt 0 count) (Fails Form) cost tt (fits_cost before count (numbers_of (codes "cost") 2 line)))
