-- A lane while it waits for what it asked for to be published, and once it is.
use Rattle.std.specs.Prelude.{◌≡◌, ◌++◌, length}
use Rattle.turn_lock.specs.Locks.{LockId}
use Rattle.nav_version.specs.Lists.{ToldView}
use Rattle.nav_version.specs.Pairs.{after_learning}
use Rattle.nav_live.specs.Roots.{RootView}
use Rattle.nav_live.specs.declared.lane.Lane.{Lane}
use Rattle.nav_live.specs.declared.lane.LineAnswer.TheVariants.{Settled}
use Rattle.nav_live.specs.ActRules.{Tells}
use Rattle.nav_live.specs.Lanes.{Covers, SawOthers}
use Rattle.nav_live.specs.LaneTexts.{said_text}

-- a lane has acted without asking, and nothing of it but its pass has changed
pub record HasWaited (lock : LockId RootView) (before after : Lane) : Type 0 where
  pub saw : SawOthers lock before.pass after.pass
  pub rest : after ≡ record before { pass = after.pass }

-- a lane has taken in a list that was told: its eye has learnt it and knows no longer one, and the lane has written that it is settled with the
-- length of that list
pub record HasLearnt (told : ToldView) (before after : Lane) : Type 0 where
  pub learnt : after.eye ≡ after_learning before.eye told.entries
  pub longest : length after.eye.seen ≡ length told.entries
  pub text : after.text.items ≡ before.text.items ++ said_text (Settled (length told.entries))

-- a lane has settled with a list that a publish told and its eye has learnt. That is one of the pair, the history begins with it, and it has all
-- entries that the lane's pass had seen before, and so all that the lane had asked for
pub record HasSettled (lock : LockId RootView) (before after : Lane) : Type 0 where
  pub told : ToldView
  pub tells : Tells lock.root after.pass.seen told
  pub covers : Covers before.pass (length told.entries)
  pub learns : HasLearnt told before after
