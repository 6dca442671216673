use Rattle.std.proofs.Common.{arith}
use Rattle.mesh_types.proofs.EarLaws.{best_ear-more, best_ear-all}
use Rattle.ear_cut.proofs.ear.best_ear.Goals as goal

pub loop-position-preserved : goal.loop-position-preserved
loop-position-preserved c = record {
  best = best_ear-more c.args.corners.now c.args.rest.now c.loop-position.position c.loop-position.best c.or_later-best.result c.loop-position.invariant.best c.or_later-best.ensures.value;
  there = c.or_later-best.ensures.known;
}

pub returns-clause-value : goal.returns-clause-value
returns-clause-value c =
    best_ear-all c.args.corners.now c.args.rest.now c.loop-position.position c.loop-position.best
    (omega (arith, c.loop-position-test.false, c.loop-position.auto.position-end)) c.loop-position.invariant.best
