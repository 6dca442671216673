use Rattle.std.proofs.Common.{◌*◌, ◌≤◌, arith}
use Rattle.std.proofs.lemmas.Nat.{mul-le}
use Rattle.path_queries.proofs.spots.square_rise.Goals as goal

pub returns-clause-bound : goal.returns-clause-bound
returns-clause-bound c =
    let rise : c.from.result ≤ 1024 = omega (arith, c.from.ensures, c.requires.toward.most) in
    let gap : c.from-2.result ≤ 65535 =
    omega (arith, c.from-2.ensures, c.max-gap.ensures, c.saturating_sub.ensures, c.saturating_sub-2.ensures, c.requires.rules.floors, c.requires.rules.high, c.requires.toward.height) in
    let one = mul-le c.from.result c.from-2.result 1024 65535 rise gap in
    omega (arith, mul-le (c.from.result * c.from-2.result) (c.from.result * c.from-2.result) 67107840 67107840 (omega (arith, one)) (omega (arith, one)))
