-- What spans have passed of the neighbouring columns.
use Rattle.std.specs.Prelude.{ℕ, ◌+◌, List}
use Rattle.nav_ground.specs.declared.field.Span.{Span}
use Rattle.span_filters.specs.declared.filters.PassedSpans.{PassedSpans}
use Rattle.span_filters.specs.Columns.{IsPassed, column_beside, place_of}

-- in each direction, as many spans as said begin before a span's floor plus a height over the neighbouring column
pub record ArePassed (spans : List Span) (passed : PassedSpans) (height : ℕ) (span : Span) : Type 0 where
  pub left : IsPassed spans passed.left (place_of (column_beside 0 span) (span.top + height))
  pub above : IsPassed spans passed.above (place_of (column_beside 1 span) (span.top + height))
  pub right : IsPassed spans passed.right (place_of (column_beside 2 span) (span.top + height))
  pub below : IsPassed spans passed.below (place_of (column_beside 3 span) (span.top + height))
