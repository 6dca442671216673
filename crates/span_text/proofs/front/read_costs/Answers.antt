use Rattle.std.proofs.Common.{◌≡◌}
use Rattle.span_text.specs.declared.body.BodyLine.TheVariants.{Cost, Fails}
use Rattle.span_text.specs.Body.{header_line}
use Rattle.span_text.proofs.FrontLaws.{HasCosts_more, costs_fail, costs_cut, costs_ended}
use Rattle.span_text.proofs.front.read_costs.Goals as goal

pub returns-in-Fails : goal.returns-in-Fails
returns-in-Fails c =
    let is : header_line c.loop-line.before c.in-Some.line.now ≡ Fails c.in-Fails.kind = cc in
    rw c.new-fault.ensures (costs_fail _ _ _ _ _ _ c.in-Some.after.now _ c.loop-line.invariant c.in-Some.ensures.lines is)

pub returns-in-End : goal.returns-in-End
returns-in-End c = costs_ended _ _ _ _ _ _ c.in-Some.after.now _ c.loop-line.invariant c.in-Some.ensures.lines c.header_line.ensures.value c.in-End.is

pub loop-line-preserved : goal.loop-line-preserved
loop-line-preserved c =
    let is : header_line c.loop-line.before c.in-Some.line.now ≡ Cost c.in-Cost.area c.in-Cost.cost = cc in
    HasCosts_more _ _ _ _ _ _ _ _ _ c.loop-line.invariant c.in-Some.ensures.lines c.in-Some.ensures.text is c.in-Cost.ensures.fits.0 c.in-Cost.ensures.fits.1

pub returns : goal.returns
returns c = rw c.new.ensures (costs_cut _ _ _ _ _ c.loop-line.invariant c.in_default.ensures.lines)
