use Rattle.std.proofs.Common.{◌∙◌, ap}
use Rattle.span_filters.specs.Gaps.{with_gap}
use Rattle.span_filters.proofs.Stacks.{next_from, gap_from, floor_from}
use Rattle.span_filters.proofs.filters.look.Goals as goal

pub ceiling_over-ceiling-requires-clause-next : goal.ceiling_over-ceiling-requires-clause-next
ceiling_over-ceiling-requires-clause-next c =
    next_from c.args.stand.now c.args.list.spans.now c.args.first c.args.column c.requires.list.rules c.requires.stand c.requires.first

pub see_gap-requires-clause-floor : goal.see_gap-requires-clause-floor
see_gap-requires-clause-floor c =
    floor_from c.args.stand.now c.args.list.spans.now c.args.first c.args.column c.requires.list.rules c.requires.stand c.requires.first _ c.floor_over-floor.ensures

pub returns : goal.returns
returns c =
    c.see_gap.ensures
    ∙ ap (λ ceiling. with_gap c.args.stand.now c.args.seen.now (record { floor = c.floor_over-floor.result; ceiling = ceiling })) c.ceiling_over-ceiling.ensures
    ∙ gap_from c.args.stand.now c.args.list.spans.now c.args.first c.args.column c.requires.list.rules c.requires.stand c.requires.first _ c.floor_over-floor.ensures
    c.args.seen.now
