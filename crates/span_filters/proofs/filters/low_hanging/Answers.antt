use Rattle.std.proofs.Common.{◌∙◌, get_or, ap}
use Rattle.nav_ground.specs.declared.field.Span.{Span}
use Rattle.nav_ground.specs.Column.{span_below}
use Rattle.nav_ground.specs.Filters.{low_hanging_area}
use Rattle.span_filters.specs.Areas.{area_hung}
use Rattle.span_filters.proofs.Neighbours.{spans_read}
use Rattle.span_filters.proofs.OneMoreSpan.{mapped_more}
use Rattle.span_filters.proofs.ReadSpans.{largest_read}
use Rattle.span_filters.proofs.filters.low_hanging.Goals as goal

pub span_below-below-requires-clause-spans : goal.span_below-below-requires-clause-spans
span_below-below-requires-clause-spans c = spans_read c.args.field.now _ c.requires.field c.as_slice-spans.ensures

pub area_hung-requires-clause-span : goal.area_hung-requires-clause-span
area_hung-requires-clause-span c =
    largest_read c.as_slice-spans.result.now c.loop-i.i c.index-spans-i.result (spans_read c.args.field.now _ c.requires.field c.as_slice-spans.ensures)
    c.loop-i-test.true c.index-spans-i.is

-- the area that is pushed is that of the span over the one below it
pub loop-i-preserved : goal.loop-i-preserved
loop-i-preserved c =
    let spans = c.as_slice-spans.result.now in
    let span : Span = c.index-spans-i.result in
    c.in_ok-push.ensures.items
    ∙ mapped_more (low_hanging_area c.args.agent.now.climb spans) spans c.loop-i.areas.items c.loop-i.i _ span c.loop-i-test.true c.loop-i.invariant
    (c.area_hung.ensures
    ∙ ap (area_hung c.args.agent.now.climb span) (c.span_below-below.ensures.below span)
    ∙ ap (λ (s : Span). area_hung c.args.agent.now.climb s (span_below spans (get_or spans c.loop-i.i span))) c.index-spans-i.is)
