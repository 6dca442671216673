use Rattle.std.proofs.Common.{ℕ, ◌≤◌, arith}
use Rattle.std.proofs.lemmas.Nat.{mul-le}
use Rattle.mesh_place.proofs.SearchLaws.{limit_most}
use Rattle.mesh_place.proofs.bounds.reach_left.Goals as goal

pub ceil_sqrt-requires : goal.ceil_sqrt-requires
ceil_sqrt-requires c =
    let reach : ℕ = c.args.asked.now.reach in
    let few : reach ≤ 262144 = omega (arith, c.requires.asked.reach) in
    omega (arith, c.limit.ensures, limit_most c.args.climb c.args.asked.now c.args.part c.args.best, mul-le reach reach 262144 262144 few few)

pub returns-clause-most : goal.returns-clause-most
returns-clause-most c =
    c.ceil_sqrt.ensures.least.least c.args.asked.now.reach (omega (arith, c.limit.ensures, limit_most c.args.climb c.args.asked.now c.args.part c.args.best))

pub returns-clause-enough : goal.returns-clause-enough
returns-clause-enough c = omega (arith, c.limit.ensures, c.ceil_sqrt.ensures.least.reaches)
