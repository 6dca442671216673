use Rattle.std.proofs.Common.{arith}
use Rattle.std.proofs.lemmas.Option.{slice_get-get_or}
use Rattle.crowd_moves.proofs.StepLaws.{no_agent, no_move}
use Rattle.crowd_filter.proofs.StepParts.{moved_all, moved_more}
use Rattle.crowd_filter.proofs.steps.make_moves.Goals as goal

pub moved-requires-clause-made : goal.moved-requires-clause-made
moved-requires-clause-made c =
    c.requires.moves c.loop-i.i _ _
    (slice_get-get_or c.args.placed.now c.loop-i.i no_agent (omega (arith, c.loop-i-test.true, c.requires.one_each, c.loop-i.auto.agents)))
    (slice_get-get_or c.args.moves.now c.loop-i.i no_move (omega (arith, c.loop-i-test.true, c.requires.one_each, c.requires.one_move, c.loop-i.auto.agents)))

pub loop-i-preserved : goal.loop-i-preserved
loop-i-preserved c =
    moved_more c.args.mesh.now c.args.placed.now c.args.moves.now c.loop-i.i c.loop-i.agents no_agent c.moved.result no_move c.loop-i.invariant
    (omega (arith, c.loop-i-test.true, c.loop-i.auto.agents)) c.moved.ensures

pub returns : goal.returns
returns c =
    moved_all c.args.mesh.now c.args.placed.now c.args.moves.now c.loop-i.i c.loop-i.agents c.loop-i.invariant
    (omega (arith, c.loop-i-test.false, c.requires.one_each, c.loop-i.auto.agents))
