-- What the actors of a run share.
use Rattle.std.specs.Prelude.{◌≡◌}
use Rattle.turn_lock.specs.Locks.{LockId}
use Rattle.nav_ground.specs.declared.history.Ground.{Ground}
use Rattle.nav_ground.specs.Grounds.{IsGround}
use Rattle.nav_live.specs.Roots.{RootView}

-- actors can work with a lock and a ground: the ground is that of the lock's book, and it keeps the rules
pub record IsContext (lock : LockId RootView) (ground : Ground) : Type 0 where
  pub level : ground ≡ lock.root.ground
  pub rules : IsGround ground
