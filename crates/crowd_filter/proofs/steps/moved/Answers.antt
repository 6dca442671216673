use Rattle.std.proofs.Common.{◌^◌, arith}
use Rattle.crowd_moves.proofs.PairLaws.{slow_within, within_more}
use Rattle.crowd_filter.proofs.steps.moved.Goals as goal

pub sum-requires-clause-vector : goal.sum-requires-clause-vector
sum-requires-clause-vector c =
    within_more c.args.made.now.by c.args.agent.now.speed (2 ^ 20) (omega (arith, c.requires.agent.sizes.speed))
    (slow_within c.args.made.now.by c.args.agent.now.speed c.requires.made.mover.slow)
