-- Columns by number and heights over them as places, so that spans in order begin at places in order.
use Rattle.std.specs.Prelude.{◌≡◌, ℕ, ◌+◌, ◌-◌, ◌*◌, ◌<◌, ◌≤◌, Bool, ◌==◌, if◌then◌else◌, List, [], ◌∷◌, length, map, All, AllPairs, Option, Some, slice_index_or}
use Rattle.nav_ground.specs.declared.field.Span.{Span}
use Rattle.nav_ground.specs.Fields.{IsSpan, IsSpanBefore}

-- a span of the largest field
abbrev pub IsLargestSpan : Span → Type 0
IsLargestSpan span = IsSpan 1024 1024 span

-- spans of the largest field, in order
pub record AreSpans (spans : List Span) : Type 0 where
  pub few : length spans ≤ 2000000
  pub each : All (IsSpan 1024 1024) spans
  pub order : AllPairs IsSpanBefore spans

-- two spans lie in one column
abbrev pub IsSameColumn : Span → Span → Type 0
IsSameColumn a b = (a.x ≡ b.x) × (a.z ≡ b.z)

-- columns are numbered row by row; a row has 2048 numbers and the first begins at 2048, so that the columns beside a row have numbers of their own
abbrev pub column_of : Span → ℕ
column_of span = (span.z + 1) * 2048 + span.x

-- the number of the column beside a span's in a direction
abbrev pub column_beside : ℕ → Span → ℕ
column_beside dir span =
    if dir == 0 then column_of span - 1
    else (if dir == 1 then column_of span + 2048
    else (if dir == 2 then column_of span + 1
    else column_of span - 2048))

-- a span lies in the column with a number
abbrev pub is_in : ℕ → Span → Bool
is_in column span = column_of span == column

-- the place of a height over a column
abbrev pub place_of : ℕ → ℕ → ℕ
place_of column height = column * 16384 + height

-- the place where a span begins
abbrev pub start_of : Span → ℕ
start_of span = place_of (column_of span) span.bottom

-- spans in order, with the places where they begin beside them
pub record ArePlaced (spans : List Span) (starts : List ℕ) : Type 0 where
  pub rules : AreSpans spans
  pub places : starts ≡ map start_of spans

-- the first n spans begin before a place
pub record IsPassed (spans : List Span) (n place : ℕ) : Type 0 where
  pub most : n ≤ length spans
  pub before : (k : ℕ) (d : Span) → k < n → start_of (slice_index_or spans k d) < place

-- the first n spans begin before a place, the others do not
pub record IsCutAt (spans : List Span) (n place : ℕ) : Type 0 where
  pub passed : IsPassed spans n place
  pub after : (k : ℕ) (d : Span) → n ≤ k → k < length spans → place ≤ start_of (slice_index_or spans k d)

-- the floor over spans that stand one above the other: the top of the last, or the floor below them where there is none
abbrev pub floor_over : Option ℕ → List Span → Option ℕ
floor_over floor [] = floor
floor_over floor (span ∷ above) = floor_over (Some span.top) above

-- the bottom of the lowest of spans that stand one above the other; open sky where there is none
abbrev pub ceiling_over : List Span → ℕ
ceiling_over [] = 65535
ceiling_over (span ∷ above) = span.bottom
