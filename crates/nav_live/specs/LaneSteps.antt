-- What a lane runs, and what it keeps of it.
use Rattle.std.specs.Prelude.{◌≡◌, ⊤, List, [], ◌∷◌, ◌++◌, length, map, IfSome}
use Rattle.turn_lock.specs.Locks.{LockId}
use Rattle.nav_base.specs.Point.{HasCoordinates}
use Rattle.nav_ground.specs.Limits.{IsShape}
use Rattle.nav_query.specs.Questions.{IsAnswerable}
use Rattle.nav_script.specs.declared.script.Line.{Line}
use Rattle.nav_script.specs.declared.script.Line.TheVariants.{Ask, Add, Remove, Undo, Settle, Send, March}
use Rattle.nav_live.specs.Roots.{RootView}
use Rattle.nav_live.specs.declared.lane.Lane as lanes
use Rattle.nav_live.specs.declared.lane.LineAnswer.{LineAnswer}
use Rattle.nav_live.specs.LaneEntries.{Spoken, adds_with}
use Rattle.nav_live.specs.LaneRecords.{length_told, number_after}
use Rattle.nav_live.specs.LaneTexts.{said_text}
use Rattle.nav_live.specs.Lanes.{KeepsLane}

-- a lane can run a request, a question, a `settle`, a `send` or a `march`, with its numbers within their limits
abbrev pub IsRunnable : Line → Type 0
IsRunnable (Ask question) = IsAnswerable question
IsRunnable (Add shape) = IsShape shape
IsRunnable (Remove number) = ⊤
IsRunnable (Undo j) = ⊤
IsRunnable Settle = ⊤
IsRunnable (Send from from_y to to_y) = HasCoordinates from × HasCoordinates to
IsRunnable (March far) = ⊤
IsRunnable _ = ⊥

-- a line was noted: its answer is written behind those before, and what later lines need of it is kept
pub record HasNoted (line : Line) (said : LineAnswer) (before after : lanes.Lane) : Type 0 where
  pub text : after.text.items ≡ before.text.items ++ said_text said
  pub adds : after.adds ≡ adds_with before.adds (line, said)
  pub last : after.last ≡ number_after before.last said

-- a lane that had run lines with these answers has run a line more. A length that the line names is that of the longest list that the lane's eye
-- then knows, and an eye knows none but those that were published in its pair
pub record HasRun (lock : LockId RootView) (line : Line) (spoken : List Spoken) (after : lanes.Lane) : Type 0 where
  pub said : LineAnswer
  pub keeps : KeepsLane lock (spoken ++ (line, said) ∷ []) after
  pub named : IfSome (length_told said) (λ k. k ≡ length after.eye.seen)

-- a lane has run these lines and no others
pub record HasRunAll (lock : LockId RootView) (list : List Line) (lane : lanes.Lane) : Type 0 where
  pub spoken : List Spoken
  pub keeps : KeepsLane lock spoken lane
  pub each : map (λ (one : Spoken). one.0) spoken ≡ list
