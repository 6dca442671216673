use Rattle.std.proofs.Common.{subst, sym}
use Rattle.span_text.specs.NextLine.{SaysFirst}
use Rattle.span_text.proofs.NextLineLaws.{span_first}
use Rattle.span_text.proofs.body.next_line.Goals as goal

pub returns-in-Some-clause-value : goal.returns-in-Some-clause-value
returns-in-Some-clause-value c =
    subst (λ said. SaysFirst c.args.width c.args.depth c.args.before c.args.spans.now c.args.text.now said c.in-Some.rest.now) (sym c.span_or_many.ensures.value)
    (span_first c.args.width c.args.depth c.args.before c.args.spans.now c.args.text.now c.in-Some.rest.now c.in-Some.span c.in-Some.ensures.held c.in-Some.ensures.text)
