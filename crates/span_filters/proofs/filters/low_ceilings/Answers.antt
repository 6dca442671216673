use Rattle.std.proofs.Common.{◌+◌, ◌∙◌, length, get_or, ap, arith}
use Rattle.nav_ground.specs.declared.field.Span.{Span}
use Rattle.nav_ground.specs.Column.{ceiling_of}
use Rattle.nav_ground.specs.Filters.{is_low_ceiling}
use Rattle.span_filters.specs.Areas.{area_under}
use Rattle.span_filters.proofs.Neighbours.{spans_read}
use Rattle.span_filters.proofs.OneMoreSpan.{without_more}
use Rattle.span_filters.proofs.ReadSpans.{largest_read}
use Rattle.span_filters.proofs.filters.low_ceilings.Goals as goal

pub ceiling_of-ceiling-requires-clause-spans : goal.ceiling_of-ceiling-requires-clause-spans
ceiling_of-ceiling-requires-clause-spans c = spans_read c.args.field.now _ c.requires.field c.as_slice-spans.ensures

pub overflow_add-top : goal.overflow_add-top
overflow_add-top c =
    let here = largest_read c.as_slice-spans.result.now c.loop-i.i c.index-spans-i.result (spans_read c.args.field.now _ c.requires.field c.as_slice-spans.ensures)
    c.loop-i-test.true c.index-spans-i.is in
    omega (arith, here.top, c.top.ensures)

pub bounds-areas-i : goal.bounds-areas-i
bounds-areas-i c = omega (arith, ap length c.as_slice-spans.ensures)

pub loop-i-preserved : goal.loop-i-preserved
loop-i-preserved c =
    let spans = c.as_slice-spans.result.now in
    let span : Span = c.index-spans-i.result in
    c.in_ok-push.ensures.items
    ∙ without_more (is_low_ceiling spans c.args.agent.now) spans c.args.areas.now c.loop-i.left.items c.loop-i.i
    c.area_under.result span 0 c.loop-i-test.true (omega (arith, ap length c.as_slice-spans.ensures)) c.loop-i.invariant
    (c.area_under.ensures
    ∙ ap (λ ceiling. area_under ceiling (c.top.result + c.args.agent.now.height) (get_or c.args.areas.now c.loop-i.i 0)) (c.ceiling_of-ceiling.ensures span)
    ∙ ap (λ top. area_under (ceiling_of spans (get_or spans c.loop-i.i span)) (top + c.args.agent.now.height) (get_or c.args.areas.now c.loop-i.i 0))
    (c.top.ensures ∙ ap (λ (s : Span). s.top) c.index-spans-i.is))
