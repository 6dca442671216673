use Rattle.std.proofs.Common.{◌≡◌}
use Rattle.turn_lock.specs.Locks.{IsOf}
use Rattle.bench_calls.proofs.locks.add_all.Given as goal

abbrev pub invariant-loop-number : goal.invariant-loop-number
invariant-loop-number g l = IsOf l.lock l.pass × (l.pass.number ≡ 0)
