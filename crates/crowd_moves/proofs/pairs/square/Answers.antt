use Rattle.std.proofs.Common.{◌^◌, arith}
use Rattle.std.proofs.lemmas.Nat.{mul-le}
use Rattle.crowd_moves.proofs.pairs.square.Goals as goal

pub overflow_mul-result : goal.overflow_mul-result
overflow_mul-result c = let h = mul-le c.args.n c.args.n (2 ^ 31) (2 ^ 31) c.requires c.requires in omega (arith, h)

pub returns-clause-small : goal.returns-clause-small
returns-clause-small c = let h = mul-le c.args.n c.args.n (2 ^ 31) (2 ^ 31) c.requires c.requires in omega (arith, h)
