use Rattle.std.proofs.Common.{arith}
use Rattle.std.proofs.lemmas.Int.{ints, clamps}
use Rattle.agent_erode.proofs.windows.ends_of.Goals as goal

pub returns-clause-order : goal.returns-clause-order
returns-clause-order c = omega (arith, ints, clamps, c.clamp-first.ensures.value, c.clamp-end.ensures.value)

pub returns-clause-all : goal.returns-clause-all
returns-clause-all c = λ n below between.
    (omega (arith, ints, clamps, between, c.clamp-first.ensures.value), omega (arith, ints, clamps, between, c.clamp-first.ensures.value, c.clamp-end.ensures.value))

pub returns-clause-only : goal.returns-clause-only
returns-clause-only c = λ n least most.
    (omega (arith, ints, clamps, least, most, c.clamp-first.ensures.value, c.clamp-end.ensures.value), omega (arith, ints, clamps, least, most, c.clamp-first.ensures.value, c.clamp-end.ensures.value))
