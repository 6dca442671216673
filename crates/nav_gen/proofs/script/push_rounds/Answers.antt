use Rattle.std.proofs.Common.{arith}
use Rattle.nav_gen.proofs.RoundTexts.{rounds_more, rounds_written}
use Rattle.nav_gen.proofs.script.push_rounds.Goals as goal

pub loop-before-preserved : goal.loop-before-preserved
loop-before-preserved c =
    rounds_more _ _ _ _ _ _ _ _ c.loop-before.invariant.0 c.loop-before.invariant.1 c.in_ok-push_round.ensures.text c.in_ok-push_round.ensures.state

pub returns : goal.returns
returns c =
    rounds_written _ _ _ _ _ c.loop-before.invariant.0 (omega (arith, c.loop-before.auto.before-end)) (omega (arith, c.loop-before-test.false))
