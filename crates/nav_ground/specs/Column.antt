-- Column: the spans over one place, what stands above and below a span, and the gaps between the spans.
use Rattle.std.specs.Prelude.{ℕ, Bool, nat_le, ◌==◌, ◌&&◌, List, [], ◌∷◌, filter, Option, Some, None}
use Rattle.std.specs.List.{find, last_or}
use Rattle.std.specs.Option.{option_map_or}
use Rattle.nav_ground.specs.declared.field.Span.{Span}
use Rattle.nav_ground.specs.declared.cell.CellRef.{CellRef}
use Rattle.nav_ground.specs.Cells.{is_toward}

-- another span stands above a span in the same column
abbrev pub stands_above : Span → Span → Bool
stands_above span other = other.x == span.x && other.z == span.z && nat_le span.top other.bottom

-- the next span of the column above a span, and the next below it, if there is one
abbrev pub span_above : List Span → Span → Option Span
span_above spans span = find (stands_above span) spans

-- the next span of the column below a span, if there is one
abbrev pub span_below : List Span → Span → Option Span
span_below spans span = last_or None (filter (λ (other : Span). stands_above other span) spans)

-- a span's floor is its top; its ceiling is the bottom of the next span above it, or 65535 for the last of its column
abbrev pub ceiling_of : List Span → Span → ℕ
ceiling_of spans span = option_map_or (λ (above : Span). above.bottom) (span_above spans span) 65535

-- the foot of a span's column, as the place of a cell
abbrev pub foot_of : Span → CellRef
foot_of span = record { x = span.x; z = span.z; level = 0 }

-- the spans of the neighbouring column in a direction, from the bottom up
abbrev pub column_toward : ℕ → List Span → Span → List Span
column_toward dir spans span = filter (λ (other : Span). is_toward dir (foot_of span) (foot_of other)) spans

-- a gap of a column: from its floor, or from below every height where it has none, up to its ceiling
pub record Gap : Type 0 where
  pub floor : Option ℕ
  pub ceiling : ℕ

-- the gaps of spans that stand one above the other over a floor, or over none: below each span, and above the last
abbrev pub gaps_over : Option ℕ → List Span → List Gap
gaps_over floor [] = record { floor = floor; ceiling = 65535 } ∷ []
gaps_over floor (span ∷ above) = record { floor = floor; ceiling = span.bottom } ∷ gaps_over (Some span.top) above

-- the gaps of a column: below its first span, and above each span
abbrev pub gaps_of : List Span → List Gap
gaps_of column = gaps_over None column
