-- What an input is answered with.
use Rattle.std.specs.Prelude.{◌≡◌, ℕ, List, ⊤}
use Rattle.nav_record.specs.FrameTexts.{fault_text}
use Rattle.nav_script.specs.declared.script.Way.{Way}
use Rattle.nav_text.specs.declared.fault.TextFault.{TextFault}
use Rattle.top_call.specs.declared.words.InputKind.{InputKind}
use Rattle.top_call.specs.declared.words.InputKind.TheVariants.{Script, Triangles}
use Rattle.top_call.specs.declared.answer.InputAnswer.{InputAnswer}
use Rattle.top_call.specs.declared.answer.InputAnswer.TheVariants.{Text, Fault, TooManySpans, OutOfMemory}
use Rattle.top_call.specs.Inputs.{IsInputFor, IsRunText, IsFault}
use Rattle.top_call.specs.Triangles.{IsRastered}

-- the text is the line of a fault of the input that is to be run this way
pub record TellsFault (way : Way) (bytes text : List ℕ) : Type 0 where
  pub fault : TextFault
  pub wrong : IsFault way bytes fault
  pub told : text ≡ fault_text fault

-- the answer is right: a text is one of the input for this way to run it, and a fault line tells a fault of it
abbrev pub IsRight : Way → List ℕ → InputAnswer → Type 0
IsRight way bytes (Text text) = IsRunText way bytes text.items
IsRight way bytes (Fault text) = TellsFault way bytes text.items
IsRight way bytes TooManySpans = ⊥
IsRight way bytes OutOfMemory = ⊤

-- the answer is a text of a run, unless memory ran out
abbrev pub IsTextUnless : InputAnswer → Type 0
IsTextUnless (Text text) = ⊤
IsTextUnless (Fault text) = ⊥
IsTextUnless TooManySpans = ⊥
IsTextUnless OutOfMemory = ⊤

-- the answer is right for what the input is read as; and one that is in the grammar for its way is answered with a text, unless memory ran out
abbrev pub IsAnswer : InputKind → List ℕ → InputAnswer → Type 0
IsAnswer (Script way) bytes answer = IsRight way bytes answer × (IsInputFor way bytes → IsTextUnless answer)
IsAnswer Triangles bytes answer = IsRastered bytes answer

-- the answer is the line of this fault, unless memory ran out
abbrev pub IsLineOf : TextFault → InputAnswer → Type 0
IsLineOf fault (Text text) = ⊥
IsLineOf fault (Fault text) = text.items ≡ fault_text fault
IsLineOf fault TooManySpans = ⊥
IsLineOf fault OutOfMemory = ⊤
