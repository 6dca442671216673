-- The answer to an input.
use Rattle.std.proofs.Common.{◌≡◌, ℕ, List, subst, sym, refl}
use Rattle.std.specs.Prelude.{Result, Err}
use Rattle.nav_ground.specs.declared.setting.Setting.{Setting}
use Rattle.nav_ground.specs.declared.field.Field.{Field}
use Rattle.nav_script.specs.declared.script.Script.{Script}
use Rattle.nav_script.specs.declared.script.Way.{Way}
use Rattle.nav_text.specs.declared.fault.TextFault.{TextFault}
use Rattle.top_call.specs.declared.answer.InputAnswer.{InputAnswer}
use Rattle.top_call.specs.declared.answer.InputAnswer.TheVariants.{Text, Fault, TooManySpans, OutOfMemory}
use Rattle.top_call.specs.declared.answer.Input.{Input}
use Rattle.top_call.specs.declared.answer.InputRefusal.{InputRefusal}
use Rattle.top_call.specs.declared.answer.InputRefusal.TheVariants as input_refusals
use Rattle.top_call.specs.declared.words.InputKind.{InputKind}
use Rattle.top_call.specs.declared.words.InputKind.TheVariants as kinds
use Rattle.top_call.specs.Answers.{IsAnswer, IsRight, IsLineOf, IsTextUnless}
use Rattle.top_call.specs.Inputs.{IsInput, IsInputFor, IsFault}
use Rattle.top_call.specs.Readings.{IsReadAs}
use Rattle.top_call.specs.StepCounts.{HasAnswerStepped, HasStepped}
use Rattle.top_call.specs.Triangles.{IsRastered}

-- a line that tells a fault of the input is a right answer
pub line_right : (way : Way) (bytes : List ℕ) (fault : TextFault) (answer : InputAnswer) → IsFault way bytes fault → IsLineOf fault answer
    → IsRight way bytes answer
line_right way bytes fault (Text text) wrong told = elim told [ ]
line_right way bytes fault (Fault text) wrong told = record { fault = fault; wrong = wrong; told = told }
line_right way bytes fault TooManySpans wrong told = elim told [ ]
line_right way bytes fault OutOfMemory wrong told = tt

abbrev pub ReadsInput : Way → List ℕ → Result Input InputRefusal → Type 0
ReadsInput way bytes result = (setting : Setting) (field : Field) (script : Script) → IsInput way bytes setting field script
    → IsReadAs setting field script result

-- an input that can be run is read
pub no_fault : (way : Way) (bytes : List ℕ) (result : Result Input InputRefusal) (fault : TextFault) → ReadsInput way bytes result
    → result ≡ Err (input_refusals.Fault fault) → IsInputFor way bytes → ⊥
no_fault way bytes result fault reads is input =
    let P : Result Input InputRefusal → Type 0 = λ r. IsReadAs input.setting input.field input.script r in
    subst P is (reads input.setting input.field input.script input.there)

-- what an input is answered with, by what it is read as
pub script_right : (kind : InputKind) (way : Way) (bytes : List ℕ) (answer : InputAnswer) → kind ≡ kinds.Script way → IsRight way bytes answer
    → (IsInputFor way bytes → IsTextUnless answer) → IsAnswer kind bytes answer
script_right kind way bytes answer is right complete =
    let A : InputKind → Type 0 = λ k. IsAnswer k bytes answer in subst A (sym is) (right, complete)

pub triangles_right : (kind : InputKind) (bytes lent : List ℕ) (answer : InputAnswer) → kind ≡ kinds.Triangles → lent ≡ bytes → IsRastered lent answer
    → IsAnswer kind bytes answer
triangles_right kind bytes lent answer is same right =
    let A : InputKind → Type 0 = λ k. IsAnswer k bytes answer in
    let B : List ℕ → Type 0 = λ xs. IsRastered xs answer in
    subst A (sym is) (subst B same right)

pub script_stepped : (kind : InputKind) (way : Way) (bytes : List ℕ) (before after : ℕ) → kind ≡ kinds.Script way → HasStepped way bytes before after
    → HasAnswerStepped kind bytes before after
script_stepped kind way bytes before after is stepped =
    let A : InputKind → Type 0 = λ k. HasAnswerStepped k bytes before after in subst A (sym is) stepped

pub triangles_stepped : (kind : InputKind) (bytes : List ℕ) (before : ℕ) → kind ≡ kinds.Triangles → HasAnswerStepped kind bytes before before
triangles_stepped kind bytes before is =
    let A : InputKind → Type 0 = λ k. HasAnswerStepped k bytes before before in subst A (sym is) refl
