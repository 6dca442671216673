use Rattle.std.proofs.Common.{◌^◌, arith}
use Rattle.crowd_moves.proofs.PairLaws.{slow_within, within_more}
use Rattle.crowd_filter.proofs.SpaceLaws.{one_move}
use Rattle.crowd_filter.proofs.space.walk.Goals as goal

pub sum-to-requires-clause-vector : goal.sum-to-requires-clause-vector
sum-to-requires-clause-vector c =
    within_more c.args.by c.args.agent.now.speed (2 ^ 20) (omega (arith, c.requires.agent.sizes.speed)) (slow_within c.args.by c.args.agent.now.speed c.requires.slow)

pub returns-clause-one : goal.returns-clause-one
returns-clause-one c = λ other is may.
    one_move c.args.mesh.now c.args.agent.now c.args.by c.sum-to.result c.in-Some.way other c.one.ensures c.sum-to.ensures c.in-Some.ensures.some c.requires.walks is may
