use Rattle.std.proofs.Common.{◌≡◌, ℕ, ◌<◌, ◌≤◌, length, take}
use Rattle.std.specs.Prelude.{slice_index_or}
use Rattle.nav_ground.specs.declared.field.Span.{Span}
use Rattle.nav_ground.specs.Filters.{areas_without, is_ledge}
use Rattle.span_filters.specs.Looks.{ArePassed}
use Rattle.span_filters.proofs.filters.ledges.Given as goal

-- the areas that are left so far, and what the spans to come have passed
abbrev pub invariant-loop-i : goal.invariant-loop-i
invariant-loop-i l = record {
  areas : l.left.items ≡ areas_without (is_ledge l.field l.agent) (take l.i l.field.spans) (take l.i l.areas);
  passed : (j : ℕ) (d : Span) → l.i ≤ j → j < length l.field.spans → ArePassed l.field.spans l.passed l.agent.height (slice_index_or l.field.spans j d);
}
