use Rattle.nav_text.proofs.LineLaws.{IsPast_next}
use Rattle.span_text.proofs.front.read_making.Goals as goal

pub returns-clause-past : goal.returns-clause-past
returns-clause-past c = λ whole past4.
    let past5 = IsPast_next _ _ 4 _ c.in_ok-line.rest.now past4 c.in_ok-line.ensures.lines c.in_ok-line.ensures.text in
    let past6 = IsPast_next _ _ 5 _ c.in_ok-line-2.rest.now past5 c.in_ok-line-2.ensures.lines c.in_ok-line-2.ensures.text in
    IsPast_next _ _ 6 _ c.in_ok-line-3.rest.now past6 c.in_ok-line-3.ensures.lines c.in_ok-line-3.ensures.text
