-- What is known of a run of a live script once its actors are joined and its lock is closed.
use Rattle.std.specs.Prelude.{◌≡◌, ℕ, ◌<◌, ◌≤◌, List, [], length, map, get_or, Some, slice_get, All, Any}
use Rattle.turn_lock.specs.Growth.{Extends}
use Rattle.turn_lock.specs.Locks.{LockId, PassView}
use Rattle.nav_ground.specs.declared.history.Entry.{Entry}
use Rattle.nav_script.specs.declared.script.Script.{Script}
use Rattle.nav_live.specs.declared.lane.Lane.{Lane}
use Rattle.nav_live.specs.LaneEntries.{Spoken, entries_made}
use Rattle.nav_live.specs.Lanes.{KeepsLane}
use Rattle.nav_live.specs.ActRules.{IsLegal}
use Rattle.nav_live.specs.Roots.{RootView}
use Rattle.nav_live.specs.LaneLines.{requests_of}
use Rattle.nav_script.specs.Lanes.{lines_of}

-- a lane that stands in a place has the number of the place, and has run all lines that a script deals to that number, with these answers
pub record HasEnded (lock : LockId RootView) (script : Script) (place : ℕ) (spoken : List Spoken) (lane : Lane) : Type 0 where
  pub keeps : KeepsLane lock spoken lane
  pub number : lane.number ≡ place
  pub each : map (λ (one : Spoken). one.0) spoken ≡ lines_of place script.lines

-- all lanes of a script have run all their lines, each with its answers, and stand in the order of their numbers
pub record HaveEnded (lock : LockId RootView) (script : Script) (told : List (List Spoken)) (lanes : List Lane) : Type 0 where
  pub count : length lanes ≡ script.lanes
  pub answered : length told ≡ script.lanes
  pub each : (place : ℕ) (lane : Lane) → slice_get lanes place ≡ Some lane → HasEnded lock script place (get_or told place []) lane

-- a pass has made no entry
pub record MadeNone (pass : PassView RootView Entry) : Type 0 where
  pub none : entries_made pass.number pass.seen ≡ []

-- all passes of a lock, in the order of their numbers: each has made at most as many entries as the lines that a script deals to its number make
-- requests
pub record HaveAsked (script : Script) (passes : List (PassView RootView Entry)) : Type 0 where
  pub numbers : (k : ℕ) (d : PassView RootView Entry) → k < length passes → (get_or passes k d).number ≡ k
  pub most : (k : ℕ) (d : PassView RootView Entry) → k < length passes → length (entries_made k (get_or passes k d).seen) ≤ requests_of k script.lines

-- a lock was closed with these passes, and gave back a book with this history: it is well replied and goes on from what each pass has seen by
-- entries of other makers alone, and each entry's maker is one of the passes
pub record IsClosed (lock : LockId RootView) (passes : List (PassView RootView Entry)) (history : List Entry) : Type 0 where
  pub legal : IsLegal lock.root history
  pub extends : All (λ (pass : PassView RootView Entry). Extends (λ (entry : Entry). entry.lane) pass.number pass.seen history) passes
  pub made : All (λ (entry : Entry). Any (λ (pass : PassView RootView Entry). pass.number ≡ entry.lane) passes) history
