-- Nearby: what a field has over a rectangle of columns.
use Rattle.std.specs.Prelude.{List, filter}
use Rattle.nav_ground.specs.declared.cell.Window.{Window}
use Rattle.nav_ground.specs.declared.field.Span.{Span}
use Rattle.nav_ground.specs.declared.field.Field.{Field}
use Rattle.nav_ground.specs.Tiling.{is_in_window}

-- the spans over a rectangle of columns
abbrev pub spans_in : Window → List Span → List Span
spans_in window spans = filter (λ (span : Span). is_in_window window span.x span.z) spans

-- a field of the same size that has the spans over a rectangle alone
abbrev pub field_in : Window → Field → Field
field_in window field = record field { spans = spans_in window field.spans }
