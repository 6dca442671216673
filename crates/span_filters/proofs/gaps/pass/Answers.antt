use Rattle.std.proofs.Common.{◌<◌, length, arith}
use Rattle.nav_ground.specs.declared.field.Span.{Span}
use Rattle.span_filters.proofs.Neighbours.{starts_after}
use Rattle.span_filters.proofs.ReadSpans.{passed_more, start_read, starts_beside}
use Rattle.span_filters.proofs.gaps.pass.Goals as goal

abbrev no_span : Span
no_span = record { x = 0; z = 0; bottom = 0; top = 0; area = 0 }

pub loop-passed-preserved : goal.loop-passed-preserved
loop-passed-preserved c =
    let spans = c.args.list.spans.now in
    let n = c.loop-passed.passed in
    let there : n < length spans = omega (arith, starts_beside spans c.args.list.starts.now c.requires.list.places, c.loop-passed-test.true) in
    let begins = start_read spans c.args.list.starts.now n 0 no_span c.requires.list.places there in
    passed_more spans n c.args.place no_span there (omega (arith, begins, c.if-starts-passed.true)) c.loop-passed.invariant

pub returns-else-starts-passed : goal.returns-else-starts-passed
returns-else-starts-passed c =
    let spans = c.args.list.spans.now in
    let n = c.loop-passed.passed in
    let there : n < length spans = omega (arith, starts_beside spans c.args.list.starts.now c.requires.list.places, c.loop-passed-test.true) in
    let begins = start_read spans c.args.list.starts.now n 0 no_span c.requires.list.places there in
    record {
      passed = c.loop-passed.invariant;
      after = starts_after spans n c.args.place no_span c.requires.list.rules there (omega (arith, begins, c.if-starts-passed.false));
    }
