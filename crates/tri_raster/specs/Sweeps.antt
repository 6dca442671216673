-- How far the spans of a field are made: rows from the front, in each row columns from the left.
use Rattle.std.specs.Prelude.{◌≡◌, ℕ, ◌+◌, ◌<◌, ◌≤◌, ◌⊎◌, List, [], ◌∷◌, ◌++◌, length, slice_index_or, All, AllPairs, Any, Result, Ok, Err, ⊤}
use Rattle.nav_ground.specs.declared.field.Span.{Span}
use Rattle.nav_ground.specs.declared.setting.Setting.{Setting}
use Rattle.tri_raster.specs.declared.triangle.Bound.{Bound}
use Rattle.tri_raster.specs.declared.triangle.Hits.{Hits}
use Rattle.tri_raster.specs.declared.triangle.Shadow.{Shadow}
use Rattle.tri_raster.specs.declared.triangle.Tri.{Tri}
use Rattle.tri_raster.specs.Bounds.{bound_at}
use Rattle.tri_raster.specs.Rasters.{IsShadow, IsSpanOf, HoldsShadow, IsSpanBefore, HasManySpans}
use Rattle.tri_raster.specs.Rows.{shadow_of}
use Rattle.tri_raster.specs.declared.text.RasterRefusal.{RasterRefusal}
use Rattle.tri_raster.specs.declared.text.RasterRefusal.TheVariants as refusals
use Rattle.tri_raster.specs.ActiveRows.{BeginIn, MayReach}
use Rattle.tri_raster.specs.Columns.{StandFor, AreKept, AreColumnSpans, AreGroupSpans}

-- the shadows kept for a column, of those of a row
abbrev pub column_at : List (List Shadow) → ℕ → List Shadow
column_at columns x = slice_index_or columns x []

-- what one triangle leaves in the columns that it hits was added to those kept there, and the other columns are as they were
pub record AreAdded (bounds : List Bound) (hits : Hits) (area : ℕ) (old new : List (List Shadow)) : Type 0 where
  pub same : length new ≡ length old
  pub hit : (x : ℕ) → hits.first ≤ x → x < hits.end → StandFor (column_at old x ++ shadow_of (bound_at bounds x) area ∷ []) (column_at new x)
  pub others : (x : ℕ) → (x < hits.first) ⊎ (hits.end ≤ x) → column_at new x ≡ column_at old x

-- a column comes before another, by z, then x
abbrev pub IsColumnBefore : ℕ → ℕ → ℕ → ℕ → Type 0
IsColumnBefore x z other_x other_z = (z < other_z) ⊎ ((z ≡ other_z) × (x < other_x))

-- the spans of the columns before one: each is one of a group, each shadow's group there has its span, and they stand in order
pub record AreSpansBefore (setting : Setting) (tris : List Tri) (x z : ℕ) (spans : List Span) : Type 0 where
  pub few : length spans ≤ 2000000
  pub each : All (IsSpanOf setting.agent.climb tris) spans
  pub inside : All (λ (span : Span). (span.x < setting.width) × (span.z < setting.depth)) spans
  pub before : All (λ (span : Span). IsColumnBefore span.x span.z x z) spans
  pub all : (at_x at_z : ℕ) (shadow : Shadow) → at_x < setting.width → IsColumnBefore at_x at_z x z → IsShadow tris at_x at_z shadow
      → Any (HoldsShadow at_x at_z shadow) spans
  pub order : AllPairs IsSpanBefore spans

-- the spans of all groups of a column were appended
pub record AppendsSpans (climb x z : ℕ) (shadows : List Shadow) (before after : List Span) : Type 0 where
  pub kept : List Shadow
  pub stand : StandFor shadows kept
  pub made : List Span
  pub added : after ≡ before ++ made
  pub few : length after ≤ 2000000
  pub are : AreColumnSpans climb x z kept made

-- with spans of groups of a column there would be too many
pub record ExceedsSpans (climb x z : ℕ) (shadows : List Shadow) (before : List Span) : Type 0 where
  pub kept : List Shadow
  pub stand : StandFor shadows kept
  pub made : List Span
  pub many : 2000000 < length (before ++ made)
  pub are : AreGroupSpans climb x z kept made

-- what became of a column's spans: they were appended, or they are too many, unless memory ran out
abbrev pub HasPushed : ℕ → ℕ → ℕ → List Shadow → List Span → List Span → {T : Type 0} → Result T RasterRefusal → Type 0
HasPushed climb x z shadows before after (Ok done) = AppendsSpans climb x z shadows before after
HasPushed climb x z shadows before after (Err refusals.TooManySpans) = ExceedsSpans climb x z shadows before
HasPushed climb x z shadows before after (Err refusals.OutOfMemory) = ⊤

-- the columns of a row hold what triangles leave there, and spans were made for the rows before
pub record IsRowOf (setting : Setting) (tris : List Tri) (climb z : ℕ) (columns : List (List Shadow)) (spans : List Span) : Type 0 where
  pub step : setting.agent.climb ≡ climb
  pub width : length columns ≡ setting.width
  pub inside : z < setting.depth
  pub kept : (x : ℕ) → x < setting.width → AreKept tris x z (column_at columns x)
  pub done : AreSpansBefore setting tris 0 z spans

-- what became of a row: its spans were appended, or they are too many, unless memory ran out
abbrev pub HasRow : Setting → List Tri → ℕ → List Span → {T : Type 0} → Result T RasterRefusal → Type 0
HasRow setting tris z after (Ok done) = AreSpansBefore setting tris 0 (z + 1) after
HasRow setting tris z after (Err refusals.TooManySpans) = HasManySpans setting tris
HasRow setting tris z after (Err refusals.OutOfMemory) = ⊤

-- nothing is kept for any column
abbrev pub AreEmpty : List (List Shadow) → Type 0
AreEmpty columns = (x : ℕ) → column_at columns x ≡ []

-- between rows: the triangles that may meet the next, and a bound and an empty column for each column of a row
pub record IsAtRow (tris : List Tri) (width z : ℕ) (active : List Tri) (bounds : List Bound) (columns : List (List Shadow)) : Type 0 where
  pub may : MayReach tris z active
  pub wide : length bounds ≡ width
  pub long : length columns ≡ width
  pub empty : AreEmpty columns

-- the same, with the triangles that begin in the row, and the spans of the rows before
pub record IsBeforeRow (setting : Setting) (tris : List Tri) (climb z : ℕ) (active : List Tri) (bounds : List Bound) (columns : List (List Shadow))
    (entering : List Tri) (spans : List Span) : Type 0 where
  pub at : IsAtRow tris setting.width z active bounds columns
  pub begin : BeginIn tris z entering
  pub step : setting.agent.climb ≡ climb
  pub inside : z < setting.depth
  pub done : AreSpansBefore setting tris 0 z spans

-- the spans of the rows before one, or too many, unless memory ran out
abbrev pub HasRows : Setting → List Tri → ℕ → Result (List Span) RasterRefusal → Type 0
HasRows setting tris z (Ok spans) = AreSpansBefore setting tris 0 z spans
HasRows setting tris z (Err refusals.TooManySpans) = HasManySpans setting tris
HasRows setting tris z (Err refusals.OutOfMemory) = ⊤
