use Rattle.std.proofs.Common.{◌≡◌, false, [], ◌++◌, map, Some, All}
use Rattle.turn_lock.specs.Locks.{IsOf, claim_of}
use Rattle.turn_lock.specs.SeatViews.{claims_of}
use Rattle.turn_lock.proofs.lock.TurnLock.gather.Given as goal

abbrev pub invariant-loop-pass : goal.invariant-loop-pass
invariant-loop-pass g l =
    (l.seat.table_id ≡ l.self.table) × (l.seat.me.0.root ≡ Some l.self.root) × (l.seat.me.1 ≡ []) × (l.seat.me.0.holds ≡ false)
    × (map claim_of l.passes.items ++ claims_of l.seat.me.0 ≡ map claim_of l.fn.passes.items)
    × All (λ p. IsOf l.self p) l.passes.items

abbrev pub decreases-loop-pass : goal.decreases-loop-pass
decreases-loop-pass g l = goal.left-loop-pass g l
