use Rattle.std.proofs.Common.{◌-◌, ◌∙◌, ◌<◌, Some, length, ap, arith}
use Rattle.nav_ground.specs.declared.field.Span.{Span}
use Rattle.span_filters.proofs.Neighbours.{floor_last_at, floor_none_at}
use Rattle.span_filters.proofs.ReadSpans.{start_read}
use Rattle.span_filters.proofs.gaps.floor_over.Goals as goal

-- no span begins here
abbrev no_span : Span
no_span = record { x = 0; z = 0; bottom = 0; top = 0; area = 0 }

pub returns-then-list-passed : goal.returns-then-list-passed
returns-then-list-passed c =
    let spans = c.args.list.spans.now in
    let m = c.args.passed - 1 in
    let there : m < length spans = omega (arith, c.requires.passed.most, c.if-passed-eq0.false) in
    let begins = start_read spans c.args.list.starts.now m 0 no_span c.requires.list.places there in
    floor_none_at spans c.args.passed m c.args.column no_span (omega (arith, c.if-passed-eq0.false)) c.requires.list.rules c.requires.passed
    (λ same. omega (arith, same, begins, c.if-list-passed.true, c.place_of.ensures))

pub returns : goal.returns
returns c =
    let spans = c.args.list.spans.now in
    let m = c.args.passed - 1 in
    let there : m < length spans = omega (arith, c.requires.passed.most, c.if-passed-eq0.false) in
    let span : Span = c.index-list-passed.result in
    let begins = start_read spans c.args.list.starts.now m 0 span c.requires.list.places there in
    let before = c.requires.passed.before m span (omega (arith, c.if-passed-eq0.false)) in
    let rules' = c.requires.list.rules.each m span there in
    ap Some c.top.ensures
    ∙ floor_last_at spans c.args.passed m c.args.column span (omega (arith, c.if-passed-eq0.false)) c.requires.passed.most
    (omega (arith, begins, before, c.if-list-passed.false, c.place_of.ensures, rules'.solid, rules'.top))
