-- What each line behind the header says, in the order of the tests that it can fail.
use Rattle.std.specs.Prelude.{ℕ, ◌<◌, ◌≤◌, ⊤, ◌-◌, Bool, not, ◌&&◌, ◌||◌, ◌==◌, nat_lt, nat_le, if◌then◌else◌, List, length, Option, Some, None, bytes_eq, slice_get, slice_index, codes}
use Rattle.std.specs.Option.{option_map_or}
use Rattle.nav_ground.specs.declared.field.Span.{Span}
use Rattle.nav_text.specs.declared.fault.FaultKind.TheVariants.{Form, Range, Order, Overlap, TooMany}
use Rattle.nav_text.specs.Forms.{numbers_of, has_word}
use Rattle.span_text.specs.declared.body.BodyLine.{BodyLine}
use Rattle.span_text.specs.declared.body.BodyLine.TheVariants as lines
use Rattle.nav_ground.specs.Shapes.{is_in}

-- a cost: an area from 1 to 63, a cost from 1 to 1000, and the area above the one before
abbrev pub cost_in : ℕ → Option (List ℕ) → BodyLine
cost_in before read = option_map_or (λ (numbers : List ℕ).
    if not (is_in 1 63 (slice_index numbers 0)) || not (is_in 1 1000 (slice_index numbers 1)) then lines.Fails Range
    else (if nat_le (slice_index numbers 0) before then lines.Fails Order else lines.Cost (slice_index numbers 0) (slice_index numbers 1))) read (lines.Fails Form)

-- the span of five numbers
abbrev pub span_of : List ℕ → Span
span_of numbers = record {
  x = slice_index numbers 0;
  z = slice_index numbers 1;
  bottom = slice_index numbers 2;
  top = slice_index numbers 3;
  area = slice_index numbers 4;
}

-- the span's numbers are within their limits
abbrev pub is_span : ℕ → ℕ → Span → Bool
is_span width depth span = nat_lt span.x width && nat_lt span.z depth && nat_lt span.bottom span.top && nat_le span.top 8191 && nat_le span.area 63

-- a span's column comes before another's, by z and then x; both are of one column
abbrev pub is_column_before : Span → Span → Bool
is_column_before a b = nat_lt a.z b.z || a.z == b.z && nat_lt a.x b.x

-- two spans stand in one column
abbrev pub is_column_of : Span → Span → Bool
is_column_of a b = a.z == b.z && a.x == b.x

-- a span after the last one
abbrev pub span_after : Option Span → Span → BodyLine
span_after None span = lines.Spans span
span_after (Some last) span =
    if is_column_before span last then lines.Fails Order
    else (if is_column_of span last && nat_lt span.bottom last.top then lines.Fails Overlap else lines.Spans span)

-- the same where its numbers may be past their limits
abbrev pub span_in : ℕ → ℕ → Option Span → Span → BodyLine
span_in width depth last span = if not (is_span width depth span) then lines.Fails Range else span_after last span

-- a line that is no span: `end`, or a cost where no span stands before
unfoldable pub other_line : ℕ → ℕ → List ℕ → BodyLine
other_line before count line =
    if bytes_eq line (codes "end") then lines.End
    else (if nat_lt 0 count then lines.Fails Form else cost_in before (numbers_of (codes "cost") 2 line))

-- a line with five numbers is judged as a span, any other as what else may stand there
abbrev pub span_or_other : ℕ → ℕ → ℕ → List Span → List ℕ → Option (List ℕ) → BodyLine
span_or_other width depth before spans line None = other_line before (length spans) line
span_or_other width depth before spans line (Some numbers) = span_in width depth (slice_get spans (length spans - 1)) (span_of numbers)

-- a line behind the header, after spans, where `before` is the area of the last cost, 0 at first
unfoldable pub body_line : ℕ → ℕ → ℕ → List Span → List ℕ → BodyLine
body_line width depth before spans line =
    if length spans == 2000000 && has_word (codes "span") line then lines.Fails TooMany
    else span_or_other width depth before spans line (numbers_of (codes "span") 5 line)

-- a line behind those of the setting, where only costs are asked for: a cost, or the header's end at a line with another first word
unfoldable pub header_line : ℕ → List ℕ → BodyLine
header_line before line = if has_word (codes "cost") line then cost_in before (numbers_of (codes "cost") 2 line) else lines.End

-- a cost is one of a further area, and a span has room
abbrev pub Fits : ℕ → ℕ → BodyLine → Type 0
Fits before count (lines.Cost area cost) = (before < area) × (area ≤ 63)
Fits before count (lines.Spans span) = count < 2000000
Fits before count lines.End = ⊤
Fits before count (lines.Fails kind) = ⊤
