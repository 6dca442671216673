-- All actors of a live run before they run: a lane for each list of lines, and then the workers.
use Rattle.std.specs.Prelude.{◌≡◌, ℕ, ◌+◌, ◌<◌, ◌≤◌, List, [], length, get_or, All}
use Rattle.turn_lock.specs.Locks.{LockId, PassView, AreFresh}
use Rattle.nav_ground.specs.declared.history.Entry.{Entry}
use Rattle.nav_script.specs.declared.script.Line.{Line}
use Rattle.nav_script.specs.declared.script.Script.{Script}
use Rattle.nav_version.specs.Pairs.{EyeView}
use Rattle.nav_live.specs.Roots.{RootView}
use Rattle.nav_live.specs.declared.lane.Lane.{Lane}
use Rattle.nav_live.specs.Lanes.{CanStart, KeepsLane}
use Rattle.nav_live.specs.declared.actors.ActorSlot.{ActorSlot}
use Rattle.nav_live.specs.declared.actors.ActorTask.{ActorTask}
use Rattle.nav_live.specs.declared.actors.ActorTask.TheVariants as tasks
use Rattle.nav_live.specs.LaneLines.{lines_by_lane}
use Rattle.nav_live.specs.Tasks.{IsReady}

-- an actor is the lane with a number and these lines, or the worker with a number
abbrev pub IsLaneOf : ℕ → List Line → ActorTask → Type 0
IsLaneOf number list (tasks.Lane lane lines) = (lane.pass.number ≡ number) × (lines ≡ list)
IsLaneOf number list (tasks.Worker worker) = ⊥

abbrev pub IsWorkerOf : ℕ → ActorTask → Type 0
IsWorkerOf number (tasks.Worker worker) = worker.pass.number ≡ number
IsWorkerOf number (tasks.Lane lane lines) = ⊥

-- a lane for each of these lists of lines, and then workers, each with the number of its place
pub record AreSlots (lists : List (List Line)) (slots : List ActorSlot) : Type 0 where
  pub few : length lists ≤ length slots
  pub lanes : (k : ℕ) (d : ActorSlot) → k < length lists → IsLaneOf k (get_or lists k []) (get_or slots k d).task
  pub workers : (k : ℕ) (d : ActorSlot) → length lists ≤ k → k < length slots → IsWorkerOf k (get_or slots k d).task

-- an eye is of the pair and the ground of a lock's book
pub record IsEyeOf (lock : LockId RootView) (eye : EyeView) : Type 0 where
  pub pair : eye.pair ≡ lock.root.pair
  pub level : eye.ground ≡ lock.root.ground

-- a new lock has a pass for each lane and each worker of a script, and there is an eye for each lane
pub record CanMakeActors (lock : LockId RootView) (script : Script) (passes : List (PassView RootView Entry)) (eyes : List EyeView) : Type 0 where
  pub fresh : AreFresh lock passes
  pub count : lock.passes ≡ script.lanes + script.workers
  pub each : All (IsEyeOf lock) eyes

-- a lane was made of a pass, an eye and a list of lines: it has run none of them
pub record IsNewLane (number : ℕ) (list : List Line) (pass : PassView RootView Entry) (eye : EyeView) (lane : Lane) (lines : List Line) : Type 0 where
  pub made : lane.pass ≡ pass
  pub own : lines ≡ list
  pub keeps : (lock : LockId RootView) → CanStart lock number pass eye → KeepsLane lock [] lane

-- a worker in this place, behind so many lanes, has the number of workers before it
abbrev pub IsNumbered : (lanes place : ℕ) → ActorTask → Type 0
IsNumbered lanes place (tasks.Worker worker) = worker.number + lanes ≡ place
IsNumbered lanes place (tasks.Lane lane lines) = ⊥

-- a task was made of a pass: a lane's of the eye and the list of its number too, a worker's where there is no list of its number
abbrev pub IsNew : List EyeView → List (List Line) → ℕ → PassView RootView Entry → ActorTask → Type 0
IsNew eyes lists number pass (tasks.Lane lane lines) =
    (number < length lists) × ((eye : EyeView) → IsNewLane number (get_or lists number []) pass (get_or eyes number eye) lane lines)
IsNew eyes lists number pass (tasks.Worker worker) = (length lists ≤ number) × (worker.pass ≡ pass) × (worker.number + length lists ≡ number)

-- actors were made of passes, place by place
abbrev pub AreNew : List EyeView → List (List Line) → List (PassView RootView Entry) → List ActorSlot → Type 0
AreNew eyes lists passes slots =
    (k : ℕ) (pass : PassView RootView Entry) (d : ActorSlot) → k < length slots → IsNew eyes lists k (get_or passes k pass) (get_or slots k d).task

-- all actors of a script, one for each pass of a lock: none has run, and each can; workers are numbered from 0
pub record AreMadeActors (lock : LockId RootView) (script : Script) (slots : List ActorSlot) : Type 0 where
  pub count : length slots ≡ lock.passes
  pub are : AreSlots (lines_by_lane script) slots
  pub ready : All (λ (slot : ActorSlot). IsReady lock slot.task) slots
  pub numbers : (k : ℕ) (d : ActorSlot) → script.lanes ≤ k → k < length slots → IsNumbered script.lanes k (get_or slots k d).task
