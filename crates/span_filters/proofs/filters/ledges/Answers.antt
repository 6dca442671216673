use Rattle.std.proofs.Common.{◌∙◌, arith}
use Rattle.nav_ground.specs.declared.field.Span.{Span}
use Rattle.nav_ground.specs.Filters.{is_ledge}
use Rattle.span_filters.proofs.Neighbours.{spans_of_field, spans_read}
use Rattle.span_filters.proofs.OneMoreSpan.{without_more, passed_after}
use Rattle.span_filters.proofs.filters.ledges.Goals as goal

abbrev no_span : Span
no_span = record { x = 0; z = 0; bottom = 0; top = 0; area = 0 }

pub starts_of-requires : goal.starts_of-requires
starts_of-requires c = spans_read c.args.field.now _ c.requires.field c.as_slice.ensures

pub area_left-requires-clause-passed : goal.area_left-requires-clause-passed
area_left-requires-clause-passed c = λ d. c.loop-i.invariant.passed c.loop-i.i d (omega arith) (omega arith)

pub loop-i-preserved : goal.loop-i-preserved
loop-i-preserved c = record {
  areas = c.in_ok-push.ensures.items
      ∙ without_more (is_ledge c.args.field.now c.args.agent.now) c.args.field.now.spans c.args.areas.now c.loop-i.left.items c.loop-i.i
      c.area_left.result no_span 0 (omega arith) c.loop-i-test.true c.loop-i.invariant.areas (c.area_left.ensures.area no_span);
  passed = passed_after c.args.field.now.spans c.area_left.new.passed c.args.agent.now.height c.loop-i.i
      (spans_of_field c.args.field.now c.requires.field) c.requires.agent.low_enough c.area_left.ensures.passed;
}
