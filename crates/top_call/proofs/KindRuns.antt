-- Runs on an input that is read, by what it is read as.
use Rattle.std.proofs.Common.{◌≡◌, ℕ, ◌≤◌, List, length, inl, inr}
use Rattle.std.specs.Global.{Vec}
use Rattle.std.specs.Prelude.{Option, String}
use Rattle.std.specs.declared.alloc.Global.{Global}
use Rattle.nav_io.specs.Causes.{GivesAll}
use Rattle.top_call.specs.declared.answer.InputAnswer.TheVariants.{Text, Fault, TooManySpans}
use Rattle.top_call.specs.declared.words.InputKind.{InputKind}
use Rattle.top_call.specs.declared.words.InputKind.TheVariants.{Script, Triangles}
use Rattle.top_call.specs.declared.words.Status.{Status}
use Rattle.top_call.specs.declared.words.Status.TheVariants as statuses
use Rattle.top_call.specs.Answers.{IsAnswer}
use Rattle.top_call.specs.Courses.{HasRun}
use Rattle.top_call.specs.Endings.{HasEnded}
use Rattle.top_call.specs.Inputs.{input_limit}
use Rattle.top_call.specs.Outsides.{Outside}
use Rattle.top_call.specs.StepCounts.{HasAnswerStepped, HasRunStepped}
use Rattle.top_call.specs.Triangles.{too_many_text}
use Rattle.top_call.specs.Words.{IsKindForm, IsReadForm}
use Rattle.top_call.proofs.CourseLaws.{reads_for}
use Rattle.top_call.proofs.RasterRuns.{rastered_run, told_run, many_run}
use Rattle.top_call.proofs.TopLaws.{answered_run, refused_run, read_stepped}

-- the words ask for an input to be read, as they ask for one of a kind
pub reads_as : (words : List (String Global)) (kind : InputKind) → IsKindForm kind words → IsReadForm words
reads_as words (Script way) form = reads_for words way form
reads_as words Triangles form = inr form

-- a run that was to write a text
pub text_run : (kind : InputKind) (before after : Outside) (input bytes written : List ℕ) (text : Vec ℕ) (status : Status)
    → GivesAll before.left after.left input → length input ≤ input_limit → bytes ≡ input → written ≡ text.items → IsAnswer kind bytes (Text text)
    → HasEnded before.held after.held before.write_faults after.write_faults written statuses.Ok status
    → (words : List (String Global)) → IsKindForm kind words → HasRun words before after status
text_run (Script way) before after input bytes written text status gave short same as_text right ended words form =
    answered_run way before after input bytes written text.items status gave short same as_text right.0 ended words form
text_run Triangles before after input bytes written text status gave short same as_text right ended words form =
    rastered_run before after input bytes written text.items status gave short same as_text words form right ended

-- a run that was to write the line of a fault
pub fault_run : (kind : InputKind) (before after : Outside) (input bytes written : List ℕ) (text : Vec ℕ) (status : Status)
    → GivesAll before.left after.left input → length input ≤ input_limit → bytes ≡ input → written ≡ text.items → IsAnswer kind bytes (Fault text)
    → HasEnded before.held after.held before.write_faults after.write_faults written statuses.BadText status
    → (words : List (String Global)) → IsKindForm kind words → HasRun words before after status
fault_run (Script way) before after input bytes written text status gave short same as_text right ended words form =
    refused_run way before after input bytes written text.items status gave short same as_text right.0 right.1 ended words form
fault_run Triangles before after input bytes written text status gave short same as_text right ended words form =
    told_run before after input bytes written text.items status gave short same as_text words form right ended

-- a run that was to tell of too many spans
pub spans_run : (kind : InputKind) (before after : Outside) (input bytes : List ℕ) (status : Status)
    → GivesAll before.left after.left input → length input ≤ input_limit → bytes ≡ input → IsAnswer kind bytes TooManySpans
    → HasEnded before.held after.held before.write_faults after.write_faults too_many_text statuses.TooManySpans status
    → (words : List (String Global)) → IsKindForm kind words → HasRun words before after status
spans_run (Script way) before after input bytes status gave short same right ended words form = absurd right.0
spans_run Triangles before after input bytes status gave short same right ended words form =
    many_run before after input bytes status gave short same right ended words form

-- the steps of the answer to what was read
pub answer_stepped : (kind : InputKind) (before after : Option (List ℕ)) (input bytes : List ℕ) (steps_before steps_after : ℕ)
    → GivesAll before after input → length input ≤ input_limit → bytes ≡ input → HasAnswerStepped kind bytes steps_before steps_after
    → (words : List (String Global)) → IsKindForm kind words → HasRunStepped words before after steps_before steps_after
answer_stepped (Script way) before after input bytes sb sa gave short same stepped words form =
    read_stepped way before after input bytes sb sa gave short same stepped words form
answer_stepped Triangles before after input bytes sb sa gave short same stepped words form = inl stepped
