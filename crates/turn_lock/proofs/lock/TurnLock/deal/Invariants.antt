use Rattle.std.proofs.Common.{◌≡◌, ℕ, ◌+◌, ◌<◌, ◌≤◌, [], length, Some, vec_capacity, slice_get}
use Rattle.turn_lock.specs.Locks.{fresh_pass}
use Rattle.turn_lock.specs.SeatViews.{giving_view}
use Rattle.turn_lock.proofs.lock.TurnLock.deal.Given as goal

-- as many passes as the counter says are made but one, and the giver has the next number
abbrev pub invariant-loop : goal.invariant-loop
invariant-loop g l =
    (l.giver.table_id ≡ l.self.table) × (l.giver.me ≡ (giving_view l.self.root (length l.list.items), []))
    × (length l.list.items + 1 ≡ l.counter) × (l.passes ≤ vec_capacity l.list)
    × ((k : ℕ) → k < length l.list.items → slice_get l.list.items k ≡ Some (fresh_pass l.self k))
