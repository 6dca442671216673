use Rattle.std.proofs.Common.{ap, refl, ◌∙◌}
use Rattle.turn_lock.proofs.lock.TurnLock.take.Goals as goal

pub loop-init : goal.loop-init
loop-init g c = (tt, tt, refl, refl)

pub loop-preserved : goal.loop-preserved
loop-preserved g c = (tt, tt, c.loop.invariant.2, c.loop.invariant.3)

pub loop-preserved-else-try_take : goal.loop-preserved-else-try_take
loop-preserved-else-try_take g c =
    (tt, tt, c.try_take.ensures.of ∙ c.loop.invariant.2, c.try_take.ensures.not_taken c.if-try_take.false ∙ c.loop.invariant.3)

pub try_take-requires-clause-of : goal.try_take-requires-clause-of
try_take-requires-clause-of g c =
    (c.loop.invariant.2 ∙ c.requires.of.0, ap (λ m. m.0.root) c.loop.invariant.3 ∙ c.requires.of.1)

pub try_take-requires-clause-idle : goal.try_take-requires-clause-idle
try_take-requires-clause-idle g c =
    (ap (λ m. m.1) c.loop.invariant.3 ∙ c.requires.idle.0, ap (λ m. m.0.taken) c.loop.invariant.3 ∙ c.requires.idle.1)

pub returns-then-try_take-clause-of : goal.returns-then-try_take-clause-of
returns-then-try_take-clause-of g c = c.try_take.ensures.of ∙ c.loop.invariant.2

pub returns-then-try_take-clause-taken : goal.returns-then-try_take-clause-taken
returns-then-try_take-clause-taken g c = rw (← c.loop.invariant.3) (c.try_take.ensures.taken c.if-try_take.true)
