use Rattle.std.proofs.Common.{take, arith, refl, inl}
use Rattle.std.proofs.lemmas.Grind.{common_steps}
use Rattle.nav_io.proofs.Turns.{TookMany-more, TookAtMost-more, not_one_more, rose_since}
use Rattle.nav_io.proofs.whole.read_all.Goals as goal

pub returns-then-count-most-clause-long : goal.returns-then-count-most-clause-long
returns-then-count-most-clause-long g c = λ _.
    TookMany-more _ _ _ _ (take c.in-Ok.count c.read.new.buf) _ c.pieces.invariant.taken c.in-Ok.ensures.bytes.0 (grind (arith, common_steps))

pub returns-in_err-extend_from_slice-clause-memory_within :
    goal.returns-in_err-extend_from_slice-clause-memory_within
returns-in_err-extend_from_slice-clause-memory_within g c = λ _.
    TookAtMost-more _ _ _ _ (take c.in-Ok.count c.read.new.buf) _ c.pieces.invariant.taken c.in-Ok.ensures.bytes.0 (grind (arith, common_steps))

pub returns-then-count-most-clause-fits : goal.returns-then-count-most-clause-fits
returns-then-count-most-clause-fits g c = λ has _. absurd (not_one_more _ _ _ (returns-then-count-most-clause-long g c refl) has)

pub returns-then-count-most-clause-more : goal.returns-then-count-most-clause-more
returns-then-count-most-clause-more g c = λ _ _. inl refl

pub returns-in-Err-clause-fits : goal.returns-in-Err-clause-fits
returns-in-Err-clause-fits g c = λ _ calm. absurd (calm (rose_since _ _ _ c.pieces.invariant.later c.in-Err.ensures.cause.failed))

pub returns-in-Err-clause-more : goal.returns-in-Err-clause-more
returns-in-Err-clause-more g c = λ _ calm. absurd (calm (rose_since _ _ _ c.pieces.invariant.later c.in-Err.ensures.cause.failed))

pub returns-in-Err-clause-ok : goal.returns-in-Err-clause-ok
returns-in-Err-clause-ok g c = tt
