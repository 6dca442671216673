-- How the actors of a live run have ended together, and what they leave.
use Rattle.std.specs.Prelude.{◌≡◌, ◌≢◌, ℕ, ◌+◌, ◌<◌, ◌≤◌, List, [], ◌++◌, length, map, get_or, vec_len, vec_capacity, All, Any, Option, Some, None, Ok, Err}
use Rattle.turn_lock.specs.Locks.{LockId, PassView}
use Rattle.nav_ground.specs.declared.history.Entry.{Entry}
use Rattle.nav_script.specs.declared.script.Script.{Script}
use Rattle.nav_version.specs.Pairs.{EyeView}
use Rattle.nav_live.specs.Roots.{RootView}
use Rattle.nav_live.specs.declared.lane.Lane.{Lane}
use Rattle.nav_live.specs.declared.lane.LaneEnd.TheVariants.{NoMemory, HistoryFull}
use Rattle.nav_live.specs.LaneEntries.{Spoken}
use Rattle.nav_live.specs.LaneTexts.{told_text}
use Rattle.nav_live.specs.Stops.{HasMetFull}
use Rattle.nav_live.specs.declared.actors.Actors.{Actors}
use Rattle.nav_live.specs.declared.actors.ActorSlot.{ActorSlot}
use Rattle.nav_live.specs.declared.actors.ActorsLeft.{ActorsLeft}
use Rattle.nav_live.specs.declared.actors.ActorTask.{ActorTask}
use Rattle.nav_live.specs.declared.actors.ActorTask.TheVariants as tasks
use Rattle.nav_script.specs.Lanes.{lines_of}
use Rattle.nav_live.specs.Joined.{HaveAsked, HaveEnded, MadeNone}
use Rattle.nav_live.specs.Tasks.{End}

-- how actors have ended together: well where all did; else for want of memory where one met that; else at a full history
abbrev pub EndsAs : List ActorSlot → End → Type 0
EndsAs slots (Ok done) = All (λ (slot : ActorSlot). slot.end ≡ Ok tt) slots
EndsAs slots (Err NoMemory) = Any (λ (slot : ActorSlot). slot.end ≡ Err NoMemory) slots
EndsAs slots (Err HistoryFull) = All (λ (slot : ActorSlot). slot.end ≢ Err NoMemory) slots × Any (λ (slot : ActorSlot). slot.end ≡ Err HistoryFull) slots

-- how two have ended together
abbrev pub worse : End → End → End
worse (Ok done) other = other
worse (Err NoMemory) other = Err NoMemory
worse (Err HistoryFull) (Ok done) = Err HistoryFull
worse (Err HistoryFull) (Err NoMemory) = Err NoMemory
worse (Err HistoryFull) (Err HistoryFull) = Err HistoryFull

-- what an actor leaves: its pass; and a lane its eye, and what is written of its lines
abbrev pub pass_left : ActorTask → PassView RootView Entry
pass_left (tasks.Lane lane list) = lane.pass
pass_left (tasks.Worker worker) = worker.pass

abbrev pub eye_left : ActorTask → Option EyeView
eye_left (tasks.Lane lane list) = Some lane.eye
eye_left (tasks.Worker worker) = None

abbrev pub text_left : ActorTask → Option (List ℕ)
text_left (tasks.Lane lane list) = Some lane.text.items
text_left (tasks.Worker worker) = None

-- there is room for what so many more actors leave
pub record HasRoom (count : ℕ) (left : ActorsLeft) : Type 0 where
  pub passes : vec_len left.passes + count ≤ vec_capacity left.passes
  pub eyes : vec_len left.eyes + count ≤ vec_capacity left.eyes
  pub texts : vec_len left.texts + count ≤ vec_capacity left.texts

-- nothing is left yet, and there is room for what so many actors leave
pub record IsSpare (count : ℕ) (left : ActorsLeft) : Type 0 where
  pub passes : left.passes.items ≡ []
  pub eyes : left.eyes.items ≡ []
  pub texts : left.texts.items ≡ []
  pub room : HasRoom count left

-- there is room for so many actors and for what they leave
pub record AreSpareActors (count : ℕ) (actors : Actors) : Type 0 where
  pub none : actors.slots.items ≡ []
  pub room : count ≤ vec_capacity actors.slots
  pub left : IsSpare count actors.left

-- what the actors of a script leave where all ended well: each lane has run its lines, and the passes of workers have made no entry
pub record HaveLeft (lock : LockId RootView) (script : Script) (left : ActorsLeft) : Type 0 where
  pub lanes : List Lane
  pub told : List (List Spoken)
  pub idle : List (PassView RootView Entry)
  pub ended : HaveEnded lock script told lanes
  pub none : All MadeNone idle
  pub passes : left.passes.items ≡ map (λ (lane : Lane). lane.pass) lanes ++ idle
  pub eyes : left.eyes.items ≡ map (λ (lane : Lane). lane.eye) lanes
  pub texts : left.texts.items ≡ map told_text told

-- the passes of a script's actors of which some lane met a full history, and to none of which memory was refused
pub record HaveMetFull (script : Script) (passes : List (PassView RootView Entry)) : Type 0 where
  pub asked : HaveAsked script passes
  pub lane : ℕ
  pub there : lane < length passes
  pub full : (pass : PassView RootView Entry) → HasMetFull (lines_of lane script.lines) (get_or passes lane pass)
