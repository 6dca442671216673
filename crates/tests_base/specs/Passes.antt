-- The passes of a lock in the order of their numbers, for the tests.
use Rattle.std.specs.Prelude.{◌≡◌, ℕ, ◌<◌, List, length, slice_index_or}
use Rattle.turn_lock.specs.Locks.{LockId, PassView, IsOf}

-- as many passes of the lock as it has, each at the place that is its number
pub record AreInOrder {G E : Type 0} (lock : LockId G) (passes : List (PassView G E)) : Type 0 where
  pub count : length passes ≡ lock.passes
  pub of : (k : ℕ) (d : PassView G E) → k < lock.passes → IsOf lock (slice_index_or passes k d)
  pub number : (k : ℕ) (d : PassView G E) → k < lock.passes → (slice_index_or passes k d).number ≡ k
