-- Fields: the spans of a level, column by column.
use Rattle.std.specs.Prelude.{◌≡◌, ℕ, ◌<◌, ◌≤◌, ◌⊎◌, List, length, All, AllPairs}
use Rattle.nav_ground.specs.declared.field.Span.{Span}
use Rattle.nav_ground.specs.declared.field.Field.{Field}

-- a span lies in a column of the field, has some height, ends at 8191 at most, and has one of the areas 0 to 63
pub record IsSpan (width depth : ℕ) (span : Span) : Type 0 where
  pub x : span.x < width
  pub z : span.z < depth
  pub solid : span.bottom < span.top
  pub top : span.top ≤ 8191
  pub area : span.area ≤ 63

-- a span's numbers fit ten bytes: four of two bytes, and the area in one
pub record IsSmallSpan (span : Span) : Type 0 where
  pub x : span.x < 65536
  pub z : span.z < 65536
  pub bottom : span.bottom < 65536
  pub top : span.top < 65536
  pub area : span.area < 256

-- a span comes before another: by z, then by x, and within one column the other begins where it ends or higher
abbrev pub IsSpanBefore : Span → Span → Type 0
IsSpanBefore a b = (a.z < b.z) ⊎ ((a.z ≡ b.z) × ((a.x < b.x) ⊎ ((a.x ≡ b.x) × (a.top ≤ b.bottom))))

-- a field has 1 to 1024 columns a side and at most 2000000 spans, in order
pub record IsField (field : Field) : Type 0 where
  pub wide : 1 ≤ field.width
  pub width : field.width ≤ 1024
  pub deep : 1 ≤ field.depth
  pub depth : field.depth ≤ 1024
  pub few : length field.spans ≤ 2000000
  pub spans : All (IsSpan field.width field.depth) field.spans
  pub order : AllPairs IsSpanBefore field.spans

-- areas that stand beside the spans of a field
abbrev pub AreAreas : List ℕ → Type 0
AreAreas areas = All (λ area. area ≤ 63) areas
