-- How a run ends.
use Rattle.std.proofs.Common.{◌≡◌, ℕ, ◌+◌, ◌≤◌, List, [], length, arith, subst, sym, ◌∙◌, refl, inl, inr}
use Rattle.std.specs.Prelude.{Option, Some, None, String}
use Rattle.std.specs.declared.alloc.Global.{Global}
use Rattle.nav_io.specs.Causes.{GivesAll, TookMany, TookAtMost}
use Rattle.nav_base.specs.Counts.{HasRisenAtMost}
use Rattle.nav_record.specs.FrameTexts.{usage_text, too_long_text}
use Rattle.nav_script.specs.declared.script.Way.{Way}
use Rattle.top_call.specs.declared.words.Status.{Status}
use Rattle.top_call.specs.declared.words.Status.TheVariants as statuses
use Rattle.top_call.specs.declared.words.Command.{Command}
use Rattle.top_call.specs.declared.words.Command.TheVariants.{Read, Gen}
use Rattle.top_call.specs.declared.words.InputKind.{InputKind}
use Rattle.top_call.specs.Answers.{TellsFault}
use Rattle.top_call.specs.Courses.{HasRun}
use Rattle.top_call.specs.Endings.{HasEnded}
use Rattle.top_call.specs.Inputs.{IsInputFor, IsRunText, IsFault, input_limit}
use Rattle.top_call.specs.Made.{IsMadeSummary, made_builds}
use Rattle.top_call.specs.Outcomes.{IsTextDue, IsFaultDue, IsSummaryDue}
use Rattle.top_call.specs.Outsides.{Outside}
use Rattle.top_call.specs.StepCounts.{HasStepped, HasRunStepped}
use Rattle.top_call.specs.Words.{AskFor, IsForm, IsGenForm, IsKindForm, IsReadForm, IsWayForm}
use Rattle.top_call.proofs.CourseLaws.{wrote}

-- a text of the run of what was read is due
text_due : (words : List (String Global)) (way : Way) (before after : Option (List ℕ)) (input bytes written text : List ℕ) → IsWayForm way words
    → GivesAll before after input → length input ≤ input_limit → bytes ≡ input → written ≡ text → IsRunText way bytes text
    → IsTextDue words before after written
text_due words way before after input bytes written text form gave short same as_text ran =
    let B : List ℕ → Type 0 = λ xs. IsRunText way xs text in
    let T : List ℕ → Type 0 = λ xs. IsRunText way input xs in
    record { read = record { way = way; form = form; input = input; read = gave; short = short }; ran = subst T (sym as_text) (subst B same ran) }

-- the line of the fault of what was read is due
fault_due : (words : List (String Global)) (way : Way) (before after : Option (List ℕ)) (input bytes written text : List ℕ) → IsWayForm way words
    → GivesAll before after input → length input ≤ input_limit → bytes ≡ input → written ≡ text → TellsFault way bytes text
    → (IsInputFor way bytes → ⊥) → IsFaultDue words before after written
fault_due words way before after input bytes written text form gave short same as_text tells none =
    let B : List ℕ → Type 0 = λ xs. IsFault way xs tells.fault in
    let I : List ℕ → Type 0 = λ xs. IsInputFor way xs in
    record {
      read = record { way = way; form = form; input = input; read = gave; short = short };
      fault = tells.fault;
      wrong = subst B same tells.wrong;
      told = as_text ∙ tells.told;
      no_input = λ fits. none (subst I (sym same) fits);
    }

-- a run that was to write a text of what was read
pub answered_run : (way : Way) (before after : Outside) (input bytes written text : List ℕ) (status : Status)
    → GivesAll before.left after.left input → length input ≤ input_limit → bytes ≡ input → written ≡ text → IsRunText way bytes text
    → HasEnded before.held after.held before.write_faults after.write_faults written statuses.Ok status
    → (words : List (String Global)) → IsWayForm way words
    → HasRun words before after status
answered_run way before after input bytes written text status gave short same as_text ran ended words form =
    let due = text_due words way before.left after.left input bytes written text form gave short same as_text ran in
    wrote words before after written statuses.Ok status ended (inr (inr (inr (inl due))))
    (λ there. inl (record { text = written; due = due; written = there }))

-- a run that was to write the fault of what was read
pub refused_run : (way : Way) (before after : Outside) (input bytes written text : List ℕ) (status : Status)
    → GivesAll before.left after.left input → length input ≤ input_limit → bytes ≡ input → written ≡ text → TellsFault way bytes text
    → (IsInputFor way bytes → ⊥)
    → HasEnded before.held after.held before.write_faults after.write_faults written statuses.BadText status
    → (words : List (String Global)) → IsWayForm way words
    → HasRun words before after status
refused_run way before after input bytes written text status gave short same as_text tells none ended words form =
    let due = fault_due words way before.left after.left input bytes written text form gave short same as_text tells none in
    wrote words before after written statuses.BadText status ended (inr (inr (inr (inr (inl due)))))
    (λ there. inl (record { text = written; due = due; written = there }))

-- a run that read too many bytes
pub long_run : (before after : Outside) (status : Status)
    → TookMany before.left after.left (input_limit + 1)
    → HasEnded before.held after.held before.write_faults after.write_faults too_long_text statuses.TooLong status
    → (words : List (String Global)) → IsReadForm words
    → HasRun words before after status
long_run before after status many ended words reads =
    wrote words before after too_long_text statuses.TooLong status ended (inr (inr (inl (reads, many, refl)))) (λ there. (reads, many, there))

-- a run on words in no form
pub formless_run : (words : List (String Global)) (before after : Outside) (status : Status)
    → (¬ IsForm words) → after.left ≡ before.left → HasEnded before.held after.held before.write_faults after.write_faults usage_text statuses.Usage status
    → HasRun words before after status
formless_run words before after status none unread ended =
    wrote words before after usage_text statuses.Usage status ended (inl (none, unread, refl)) (λ there. (none, there, unread))

-- the form that the words are in
pub kind_form_of : (words : List (String Global)) (kind : InputKind) (form : Command) → AskFor words (Some form) → form ≡ Read kind → IsKindForm kind words
kind_form_of words kind form asked is = let A : Command → Type 0 = λ f. AskFor words (Some f) in subst A is asked

pub gen_form_of : (words : List (String Global)) (number size : ℕ) (form : Command) → AskFor words (Some form) → form ≡ Gen number size
    → IsGenForm number size words
gen_form_of words number size form asked is = let A : Command → Type 0 = λ f. AskFor words (Some f) in subst A is asked

-- a run that was to write the summary of a made input
pub summed_run : (words : List (String Global)) (before after : Outside) (number size : ℕ) (written text : List ℕ) (status : Status)
    → IsGenForm number size words → after.left ≡ before.left → IsMadeSummary number size text → written ≡ text
    → HasEnded before.held after.held before.write_faults after.write_faults written statuses.Ok status → HasRun words before after status
summed_run words before after number size written text status form unread summary as_text ended =
    let T : List ℕ → Type 0 = λ xs. IsMadeSummary number size xs in
    let due : IsSummaryDue words before.left after.left written =
    record { gen = record { number = number; size = size; form = form }; unread = unread; summary = subst T (sym as_text) summary } in
    wrote words before after written statuses.Ok status ended (inr (inl due)) (λ there. inr (inl (record { text = written; due = due; written = there })))

-- the words are a form, as they ask for a made input
pub is_gen_form : (words : List (String Global)) (number size : ℕ) → IsGenForm number size words → IsForm words
is_gen_form words number size form = inr (record { number = number; size = size; form = form })

-- what a run took from its source
pub took_within : (before after : Option (List ℕ)) → TookAtMost before after input_limit → TookAtMost before after (input_limit + 1)
took_within before after (bytes, few, gone) = (bytes, omega (arith, few), gone)

pub took_many : (before after : Option (List ℕ)) → TookMany before after (input_limit + 1) → TookAtMost before after (input_limit + 1)
took_many before after (bytes, many, gone) = (bytes, omega (arith, many), gone)

pub took_all : (before after : Option (List ℕ)) (bytes : List ℕ) → GivesAll before after bytes → length bytes ≤ input_limit
    → TookAtMost before after (input_limit + 1)
took_all before after bytes gave short = (bytes, omega (arith, short), gave.0)

pub took_none : (before : Option (List ℕ)) → TookAtMost before before (input_limit + 1)
took_none None = ([], omega arith, tt)
took_none (Some bytes) = ([], omega arith, refl)

-- the steps of the run of what was read
pub read_stepped : (way : Way) (before after : Option (List ℕ)) (input bytes : List ℕ) (steps_before steps_after : ℕ) → GivesAll before after input
    → length input ≤ input_limit → bytes ≡ input → HasStepped way bytes steps_before steps_after
    → (words : List (String Global)) → IsWayForm way words → HasRunStepped words before after steps_before steps_after
read_stepped way before after input bytes sb sa gave short same stepped words form =
    let B : List ℕ → Type 0 = λ xs. HasStepped way xs sb sa in
    elim (subst B same stepped) [
      | inl none ↦ inl none
      | inr some ↦ inr (inl (record { way = way; form = form; input = input; read = gave; short = short }, some))
    ]

pub gen_stepped : (words : List (String Global)) (before after : Option (List ℕ)) (number size steps_before steps_after : ℕ)
    → IsGenForm number size words → HasRisenAtMost (made_builds number size) steps_before steps_after
    → HasRunStepped words before after steps_before steps_after
gen_stepped words before after number size sb sa form risen =
    inr (inr (record { number = number; size = size; form = form }, risen))
