use Rattle.std.proofs.Common.{arith}
use Rattle.shortest_line.proofs.Measures.{measured_on, measured_all}
use Rattle.shortest_line.proofs.lengths.measured.Goals as goal

pub loop-turn-preserved : goal.loop-turn-preserved
loop-turn-preserved c = (
  measured_on c.loop-turn.parts c.up-parts.result _ c.loop-turn.at c.args.goal c.args.turns.now c.loop-turn.turn-index _ c.loop-turn-test.true
      c.up-parts.ensures.value c.loop-turn.invariant.0,
  omega (arith, c.loop-turn.invariant.1, c.up-parts.ensures.few),
  c.requires.corners _ _ c.loop-turn-test.true,
)

pub returns : goal.returns
returns c =
    measured_all c.loop-turn.parts c.up.result _ c.loop-turn.at c.args.goal c.args.turns.now c.loop-turn.turn-index c.loop-turn-test.false
    c.up.ensures.value c.loop-turn.invariant.0
