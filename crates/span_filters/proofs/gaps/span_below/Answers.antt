use Rattle.std.proofs.Common.{◌∙◌, ◌-◌, Some, ap, arith}
use Rattle.std.proofs.lemmas.Bool.{both_ways}
use Rattle.nav_ground.specs.declared.field.Span.{Span}
use Rattle.span_filters.proofs.Neighbours.{none_below_at_first, below_is_at, none_below_at}
use Rattle.span_filters.proofs.ReadSpans.{largest_read, same_read, apart_read}
use Rattle.span_filters.proofs.gaps.span_below.Goals as goal

pub returns-then-i-eq0-clause-below : goal.returns-then-i-eq0-clause-below
returns-then-i-eq0-clause-below c = λ d. none_below_at_first c.args.spans.now c.args.i d c.if-i-eq0.true c.requires.spans c.requires.there

pub returns-then-is_same_column-clause-within : goal.returns-then-is_same_column-clause-within
returns-then-is_same_column-clause-within c =
    largest_read c.args.spans.now (c.args.i - 1) c.index-spans-i.result c.requires.spans (omega arith) c.index-spans-i.is

pub returns-then-is_same_column-clause-below : goal.returns-then-is_same_column-clause-below
returns-then-is_same_column-clause-below c = λ d.
    let below : Span = c.index-spans-i.result in
    ap Some c.index-spans-i.is
    ∙ below_is_at c.args.spans.now c.args.i (c.args.i - 1) d below (omega arith) c.requires.spans c.requires.there
    (same_read c.args.spans.now (c.args.i - 1) c.args.i below c.index-spans-i-2.result below (omega arith) c.requires.there c.index-spans-i.is c.index-spans-i-2.is
    (c.is_same_column.ensures.0 c.if-is_same_column.true))

pub returns-else-is_same_column-clause-below : goal.returns-else-is_same_column-clause-below
returns-else-is_same_column-clause-below c = λ d.
    let below : Span = c.index-spans-i.result in
    none_below_at c.args.spans.now c.args.i (c.args.i - 1) d below (omega arith) c.requires.spans c.requires.there
    (apart_read c.args.spans.now (c.args.i - 1) c.args.i below c.index-spans-i-2.result below (omega arith) c.requires.there c.index-spans-i.is c.index-spans-i-2.is
    (λ same. both_ways _ c.if-is_same_column.false (c.is_same_column.ensures.1 same)))
