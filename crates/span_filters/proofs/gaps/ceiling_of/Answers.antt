use Rattle.std.proofs.Common.{◌∙◌, ◌+◌, ap, arith}
use Rattle.std.proofs.lemmas.Bool.{both_ways}
use Rattle.nav_ground.specs.declared.field.Span.{Span}
use Rattle.span_filters.proofs.Neighbours.{open_above_last, ceiling_is, open_above}
use Rattle.span_filters.proofs.ReadSpans.{same_read, apart_read}
use Rattle.span_filters.proofs.gaps.ceiling_of.Goals as goal

pub returns-then-i-spans : goal.returns-then-i-spans
returns-then-i-spans c = λ d. open_above_last c.args.spans.now c.args.i d c.requires.spans (omega arith)

pub returns-then-is_same_column : goal.returns-then-is_same_column
returns-then-is_same_column c = λ d.
    let above : Span = c.index-spans-i.result in
    c.bottom.ensures ∙ ap (λ (span : Span). span.bottom) c.index-spans-i.is
    ∙ ceiling_is c.args.spans.now c.args.i d above c.requires.spans (omega arith)
    (same_read c.args.spans.now c.args.i (c.args.i + 1) c.index-spans-i-2.result above above (omega arith) (omega arith) c.index-spans-i-2.is c.index-spans-i.is
    (c.is_same_column.ensures.0 c.if-is_same_column.true))

pub returns-else-is_same_column : goal.returns-else-is_same_column
returns-else-is_same_column c = λ d.
    let above : Span = c.index-spans-i.result in
    open_above c.args.spans.now c.args.i d above c.requires.spans (omega arith)
    (apart_read c.args.spans.now c.args.i (c.args.i + 1) c.index-spans-i-2.result above above (omega arith) (omega arith) c.index-spans-i-2.is c.index-spans-i.is
    (λ same. both_ways _ c.if-is_same_column.false (c.is_same_column.ensures.1 same)))
