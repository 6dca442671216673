-- The task of one actor of a live run: what it has to do, and how it has ended.
use Rattle.std.specs.Prelude.{◌≡◌, ◌≢◌, List, [], All, Result, Err, OnOk, IfErr}
use Rattle.turn_lock.specs.Locks.{LockId, PassView, IsOf}
use Rattle.nav_ground.specs.declared.history.Entry.{Entry}
use Rattle.nav_script.specs.declared.script.Line.{Line}
use Rattle.nav_live.specs.Roots.{RootView}
use Rattle.nav_live.specs.declared.lane.Lane.{Lane}
use Rattle.nav_live.specs.declared.lane.LaneEnd.{LaneEnd}
use Rattle.nav_live.specs.declared.lane.LaneEnd.TheVariants.{HistoryFull}
use Rattle.nav_live.specs.Lanes.{KeepsLane}
use Rattle.nav_live.specs.LaneSteps.{HasRunAll, IsRunnable}
use Rattle.nav_live.specs.Stops.{IsStopped}
use Rattle.nav_live.specs.declared.actors.ActorTask.{ActorTask}
use Rattle.nav_live.specs.declared.actors.ActorTask.TheVariants as tasks
use Rattle.nav_live.specs.Joined.{MadeNone}

-- how an actor has ended: well, or why it stopped
abbrev pub End : Type 0
End = Result (Unit {0}) LaneEnd

-- a lane can run all its lines, and has run none
pub record IsReadyLane (lock : LockId RootView) (lane : Lane) (list : List Line) : Type 0 where
  pub keeps : KeepsLane lock [] lane
  pub lines : All IsRunnable list

-- a worker's pass has seen nothing
pub record IsReadyWorker (lock : LockId RootView) (pass : PassView RootView Entry) : Type 0 where
  pub of : IsOf lock pass
  pub nothing : pass.seen ≡ []

-- a task can be done, and is not begun
abbrev pub IsReady : LockId RootView → ActorTask → Type 0
IsReady lock (tasks.Lane lane list) = IsReadyLane lock lane list
IsReady lock (tasks.Worker worker) = IsReadyWorker lock worker.pass

-- two tasks are of the lane with the same number and lines, or of the worker with the same number
abbrev pub IsSameTask : ActorTask → ActorTask → Type 0
IsSameTask (tasks.Lane before list) (tasks.Lane after same) = (after.pass.number ≡ before.pass.number) × (same ≡ list)
IsSameTask (tasks.Worker before) (tasks.Worker after) = after.pass.number ≡ before.pass.number
IsSameTask _ _ = ⊥

-- a lane has run: where it ended well it has run all its lines, and where it stopped at a full history it has met that
pub record HasEndedLane (lock : LockId RootView) (list : List Line) (lane : Lane) (end : End) : Type 0 where
  pub of : IsOf lock lane.pass
  pub ran : OnOk end (HasRunAll lock list lane)
  pub full : IfErr end (IsStopped list lane.pass)

-- a worker has run: it has made no entry, and met no full history
pub record HasEndedWorker (lock : LockId RootView) (pass : PassView RootView Entry) (end : End) : Type 0 where
  pub of : IsOf lock pass
  pub made : MadeNone pass
  pub full : end ≢ Err HistoryFull

-- a task was done, or was stopped
abbrev pub IsDone : LockId RootView → ActorTask → End → Type 0
IsDone lock (tasks.Lane lane list) end = HasEndedLane lock list lane end
IsDone lock (tasks.Worker worker) end = HasEndedWorker lock worker.pass end
