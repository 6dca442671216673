-- Passes in order are all the passes of their lock.
use Rattle.std.proofs.Common.{List}
use Rattle.turn_lock.specs.Locks.{LockId, PassView, AreAll}
use Rattle.turn_lock.proofs.LockLemmas.{AreAll-in_order}
use Rattle.tests_base.specs.Passes.{AreInOrder}

pub all_in_order : {G E : Type 0} (lock : LockId G) (passes : List (PassView G E)) → AreInOrder lock passes → AreAll lock passes
all_in_order lock passes order = AreAll-in_order lock passes order.count (λ k d below. (order.of k d below, order.number k d below))
