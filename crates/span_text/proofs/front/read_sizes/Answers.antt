use Rattle.nav_text.proofs.LineLaws.{IsPast_start, IsPast_next}
use Rattle.span_text.proofs.HeaderLaws.{size_most}
use Rattle.span_text.proofs.front.read_sizes.Goals as goal

pub returns-clause-past : goal.returns-clause-past
returns-clause-past c =
    let past0 = IsPast_start c.args.bytes.now in
    let past1 = IsPast_next _ _ 0 _ c.in_ok-line.rest.now past0 c.in_ok-line.ensures.lines c.in_ok-line.ensures.text in
    let past2 = IsPast_next _ _ 1 _ c.in_ok-line-2.rest.now past1 c.in_ok-line-2.ensures.lines c.in_ok-line-2.ensures.text in
    let past3 = IsPast_next _ _ 2 _ c.in_ok-line-3.rest.now past2 c.in_ok-line-3.ensures.lines c.in_ok-line-3.ensures.text in
    IsPast_next _ _ 3 _ c.in_ok-line-4.rest.now past3 c.in_ok-line-4.ensures.lines c.in_ok-line-4.ensures.text

pub returns-clause-sides : goal.returns-clause-sides
returns-clause-sides c =
    size_most c.in_ok-line-2.line.now c.size_line.result c.map_err-2.result _ c.in_ok-width.width c.in_ok-width.depth c.size_line.ensures
    c.map_err-2.ensures.cases c.map_err-2.ensures.variant c.in_ok-width.was
