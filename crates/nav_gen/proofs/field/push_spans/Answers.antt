use Rattle.std.proofs.Common.{arith}
use Rattle.nav_gen.proofs.FieldTexts.{spans_more, spans_written}
use Rattle.nav_gen.proofs.field.push_spans.Goals as goal

pub loop-column-preserved : goal.loop-column-preserved
loop-column-preserved c =
    spans_more _ _ _ _ _ _ _ _ _ _ c.loop-column.invariant.0 c.loop-column.invariant.1 c.next.ensures.value c.next.ensures.state c.made_span-span.ensures
    c.in_ok-write_span.ensures.ok

pub returns-clause-text : goal.returns-clause-text
returns-clause-text c =
    spans_written _ _ _ _ _ c.loop-column.invariant.0 (omega (arith, c.loop-column.auto.column-end)) (omega (arith, c.loop-column-test.false))
