-- The field of the spans that a host hands over.
use Rattle.std.specs.Prelude.{List, map, All, AllPairs}
use Rattle.nav_ground.specs.declared.field.Field.{Field}
use Rattle.nav_ground.specs.declared.field.Span.{Span}
use Rattle.nav_ground.specs.Fields.{IsSpan, IsSpanBefore}
use Rattle.kinds_handle.specs.declared.wire.NavdGround.{NavdGround}
use Rattle.kinds_handle.specs.declared.wire.NavdSpan.{NavdSpan}

-- a span as it is handed over, and the field of all
abbrev pub span_of : NavdSpan → Span
span_of span = record { x = span.x; z = span.z; bottom = span.bottom; top = span.top; area = span.area }

abbrev pub field_of : NavdGround → List NavdSpan → Field
field_of ground spans = record { width = ground.width; depth = ground.depth; spans = map span_of spans }

-- a span lies in a column of the ground and is one; one comes before another
abbrev pub IsSpanOf : NavdGround → NavdSpan → Type 0
IsSpanOf ground span = IsSpan ground.width ground.depth (span_of span)

abbrev pub ComesBefore : NavdSpan → NavdSpan → Type 0
ComesBefore a b = IsSpanBefore (span_of a) (span_of b)

-- spans lie in the columns of the ground, by z, then x, then from the bottom up, and do not overlap
pub record AreSpans (ground : NavdGround) (spans : List NavdSpan) : Type 0 where
  pub each : All (IsSpanOf ground) spans
  pub order : AllPairs ComesBefore spans
