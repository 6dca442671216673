-- The wedge begins with one portal and goes through one more at a time, until it closes or the goal lies in it.
use Rattle.std.proofs.Common.{arith}
use Rattle.funnel_path.proofs.ConeLaws.{look_first, look_more, met_through, through_all}
use Rattle.funnel_path.proofs.funnel.corner_through.Goals as goal

pub loop-place-init : goal.loop-place-init
loop-place-init c = look_first c.args.portals.now c.args.apex c.args.ahead c.of-wedge.result c.requires.there c.requires.behind c.of-wedge.ensures

pub returns-in-Some : goal.returns-in-Some
returns-in-Some c =
    met_through c.requires.chain.start c.args.portals.now c.args.goal c.args.apex c.args.ahead c.loop-place.place c.loop-place.wedge c.in-Some.corner c.requires.chain.chain c.loop-place-test.true c.loop-place.invariant c.in-Some.ensures

pub loop-place-preserved : goal.loop-place-preserved
loop-place-preserved c =
    look_more c.requires.chain.start c.args.portals.now c.args.goal c.args.apex c.args.ahead c.loop-place.place c.loop-place.wedge c.narrowed-wedge.result c.requires.chain.chain c.loop-place-test.true c.loop-place.invariant
    c.in_default.ensures c.narrowed-wedge.ensures

pub returns : goal.returns
returns c =
    through_all c.args.portals.now c.args.goal c.args.apex c.args.ahead c.loop-place.place c.loop-place.wedge c.corner_before.result (omega arith) c.loop-place.invariant c.corner_before.ensures
