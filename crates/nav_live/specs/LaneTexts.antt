-- What is written of the lines of a lane.
use Rattle.std.specs.Prelude.{ℕ, List}
use Rattle.std.specs.List.{flat_map}
use Rattle.nav_record.specs.declared.step.StepAnswer.TheVariants as steps
use Rattle.nav_record.specs.EntryTexts.{reply_text}
use Rattle.nav_record.specs.AnswerTexts.{answer_text}
use Rattle.nav_record.specs.StepTexts.{step_text}
use Rattle.nav_record.specs.WalkTexts.{walk_text, no_walker_text}
use Rattle.nav_live.specs.declared.lane.LineAnswer.{LineAnswer}
use Rattle.nav_live.specs.declared.lane.LineAnswer.TheVariants.{Replied, Answered, Settled, Walked, NoWalker}
use Rattle.nav_live.specs.LaneEntries.{Spoken}

-- the lines of what a line of a lane was answered
abbrev pub said_text : LineAnswer → List ℕ
said_text (Replied number reply) = reply_text number reply
said_text (Answered k answer) = answer_text k answer
said_text (Settled k) = step_text (steps.Settled k)
said_text (Walked k answer) = walk_text k answer
said_text NoWalker = no_walker_text

-- the lines of what the lines of a lane were answered, in order
abbrev pub told_text : List Spoken → List ℕ
told_text spoken = flat_map (λ (one : Spoken). said_text one.1) spoken
