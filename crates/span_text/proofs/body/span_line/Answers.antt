use Rattle.std.proofs.Common.{codes, arith}
use Rattle.span_text.proofs.NextLineLaws.{five_spelled}
use Rattle.span_text.proofs.OnePassLaws.{head_is, word_is}
use Rattle.span_text.proofs.body.span_line.Goals as goal

pub returns-clause-text : goal.returns-clause-text
returns-clause-text c =
    five_spelled c.args.text.now _ c.in_ok-rest.rest.now c.in_ok-x.rest.now c.in_ok-z.rest.now c.in_ok-bottom.rest.now
    c.in_ok-top.rest.now c.in_ok-area.rest.now (record { x = c.in_ok-x.x; z = c.in_ok-z.z; bottom = c.in_ok-bottom.bottom; top = c.in_ok-top.top; area = c.in_ok-area.area })
    (word_is (codes "span") c.args.text.now c.in_ok-rest.rest.now c.in_ok-rest.ensures.cases.0 c.in_ok-rest.ensures.cases.1)
    c.in_ok-x.ensures.text c.in_ok-z.ensures.text c.in_ok-bottom.ensures.text c.in_ok-top.ensures.text c.in_ok-area.ensures.text
    (head_is c.in_ok-area.rest.now 10 (omega arith) c.if-rest-ne10.false)
