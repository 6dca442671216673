-- How a run ends.
use Rattle.std.proofs.Common.{◌≡◌, ℕ, ◌+◌, ◌≤◌, ◌⊎◌, List, length, subst, sym, refl, inl, inr}
use Rattle.std.specs.Prelude.{Option, Some, None, IfSome}
use Rattle.std.specs.Io.KnownBytes.{Appends, Keeps}
use Rattle.nav_io.specs.Causes.{GivesAll, HasMore, Rose, TookMany}
use Rattle.nav_io.proofs.Laws.{GivesAll-known}
use Rattle.nav_record.specs.FrameTexts.{too_long_text}
use Rattle.top_call.specs.declared.words.Status.{Status}
use Rattle.top_call.specs.declared.words.Status.TheVariants as statuses
use Rattle.top_call.specs.Answers.{TellsFault}
use Rattle.top_call.specs.Endings.{HasEnded}
use Rattle.top_call.specs.Inputs.{IsFault, IsInputFor, input_limit}
use Rattle.top_call.proofs.CourseLaws.{not_more, too_many}
use Rattle.nav_script.specs.declared.script.Way.TheVariants.{Play}
use Rattle.nav_text.specs.declared.fault.TextFault.{TextFault}
use Rattle.navd_scene.specs.declared.course.Due.{Due}
use Rattle.navd_scene.specs.declared.course.Due.TheVariants.{Scene, Fault, OutOfMemory}
use Rattle.navd_scene.specs.Drawn.{HasBroken, HasDrawn, HasRun, HasTold, IsDrawn, IsDue, IsLineOf, IsRefused, IsRight, IsSceneOf}

-- a line that tells a fault of the input is right
pub line_right : (bytes : List ℕ) (fault : TextFault) (due : Due) → IsFault Play bytes fault → IsLineOf fault due → IsRight bytes due
line_right bytes fault (Scene text) wrong told = elim told [ ]
line_right bytes fault (Fault text) wrong told = record { fault = fault; wrong = wrong; told = told }
line_right bytes fault OutOfMemory wrong told = tt

-- what can be played stays that for the same bytes
no_other : (bytes input : List ℕ) → bytes ≡ input → (IsInputFor Play bytes → ⊥) → IsInputFor Play input → ⊥
no_other bytes input same none fits = none (subst (λ xs. IsInputFor Play xs) (sym same) fits)

-- an input with a scene is in the grammar
drawn_for : (input known text : List ℕ) → input ≡ known → IsSceneOf input text → IsInputFor Play known
drawn_for input known text same drawn =
    subst (λ xs. IsInputFor Play xs) same (record { setting = drawn.setting; field = drawn.field; script = drawn.script; there = drawn.there })

module _ (before after : Option (List ℕ)) (reads_before reads_after : ℕ) (held_before held_after : Option (List ℕ)) (writes_before writes_after : ℕ) where
  -- so it ran
  abbrev LiveRun : Status → Type 0
  LiveRun status = HasRun before after reads_before reads_after held_before held_after writes_before writes_after status

  -- a run that ends by writing: with the status that is due, or with WriteFault
  wrote : (text : List ℕ) (due status : Status) → HasEnded held_before held_after writes_before writes_after text due status
      → IsDue before after text → (Appends held_before held_after text → LiveRun due) → LiveRun status
  wrote text due status ended is_due well = elim ended [
    | inl whole ↦ subst LiveRun (sym whole.0) (well whole.1)
    | inr broken ↦ subst LiveRun (sym broken.0) (broken.1, record { text = text; due = is_due; written = broken.2 })
  ]

  -- a run that was to write a scene of what was read
  pub drawn_run : (input bytes written text : List ℕ) (status : Status) → GivesAll before after input → length input ≤ input_limit → bytes ≡ input
      → written ≡ text → IsSceneOf bytes text → HasEnded held_before held_after writes_before writes_after written statuses.Ok status → LiveRun status
  drawn_run input bytes written text status gave short same as_text drawn ended =
      let due : IsDrawn before after written = record {
        input = input;
        read = gave;
        short = short;
        drawn = subst (IsSceneOf input) (sym as_text) (subst (λ xs. IsSceneOf xs text) same drawn);
      } in
      wrote written statuses.Ok status ended (inl due) (λ there. record { text = written; due = due; written = there })

  -- a run that was to write the fault of what was read
  pub refused_run : (input bytes written text : List ℕ) (status : Status) → GivesAll before after input → length input ≤ input_limit → bytes ≡ input
      → written ≡ text → TellsFault Play bytes text → (IsInputFor Play bytes → ⊥)
      → HasEnded held_before held_after writes_before writes_after written statuses.BadText status → LiveRun status
  refused_run input bytes written text status gave short same as_text told none ended =
      let due : IsRefused before after written = record {
        input = input;
        read = gave;
        short = short;
        no_input = no_other bytes input same none;
        told = subst (TellsFault Play input) (sym as_text) (subst (λ xs. TellsFault Play xs text) same told);
      } in
      wrote written statuses.BadText status ended (inr (inl due)) (λ there. record { text = written; due = due; written = there })

  -- a run that read too many bytes
  pub long_run : (status : Status) → TookMany before after (input_limit + 1)
      → HasEnded held_before held_after writes_before writes_after too_long_text statuses.TooLong status → LiveRun status
  long_run status many ended = wrote too_long_text statuses.TooLong status ended (inr (inr (many, refl))) (λ there. (many, there))

  -- the clauses of one status each
  pub run_ok : (status : Status) → LiveRun status → status ≡ statuses.Ok → HasDrawn before after held_before held_after
  run_ok status run is = subst LiveRun is run

  pub run_bad_text : (status : Status) → LiveRun status → status ≡ statuses.BadText → HasTold before after held_before held_after
  run_bad_text status run is = subst LiveRun is run

  pub run_usage : (status : Status) → LiveRun status → status ≡ statuses.Usage → ⊥
  run_usage status run is = subst LiveRun is run

  pub run_too_many : (status : Status) → LiveRun status → status ≡ statuses.TooManySpans → ⊥
  run_too_many status run is = subst LiveRun is run

  pub run_read_fault : (status : Status) → LiveRun status → status ≡ statuses.ReadFault → Rose reads_before reads_after × Keeps held_before held_after
  run_read_fault status run is = subst LiveRun is run

  pub run_write_fault : (status : Status) → LiveRun status → status ≡ statuses.WriteFault
      → Rose writes_before writes_after × HasBroken before after held_before held_after
  run_write_fault status run is = subst LiveRun is run

  pub run_too_long : (status : Status) → LiveRun status → status ≡ statuses.TooLong
      → TookMany before after (input_limit + 1) × Appends held_before held_after too_long_text
  run_too_long status run is = subst LiveRun is run

  pub run_no_memory : (status : Status) → LiveRun status → status ≡ statuses.OutOfMemory → Keeps held_before held_after
  run_no_memory status run is = subst LiveRun is run

  -- more than may be read
  pub run_more : (status : Status) → LiveRun status → HasMore before input_limit → (¬ Rose reads_before reads_after) → (¬ Rose writes_before writes_after)
      → (status ≡ statuses.TooLong) ⊎ (status ≡ statuses.OutOfMemory)
  run_more statuses.Ok run more calm quiet = not_more before after run.due.input _ run.due.read run.due.short more
  run_more statuses.BadText run more calm quiet = not_more before after run.due.input _ run.due.read run.due.short more
  run_more statuses.TooManySpans run more calm quiet = absurd run
  run_more statuses.Usage run more calm quiet = absurd run
  run_more statuses.ReadFault run more calm quiet = absurd (calm run.0)
  run_more statuses.WriteFault run more calm quiet = absurd (quiet run.0)
  run_more statuses.TooLong run more calm quiet = inl refl
  run_more statuses.OutOfMemory run more calm quiet = inr refl

-- an input for a play
pub run_complete : (before after : Option (List ℕ)) (reads_before reads_after : ℕ) (held_before held_after : Option (List ℕ))
    (writes_before writes_after : ℕ) (status : Status)
    → HasRun before after reads_before reads_after held_before held_after writes_before writes_after status
    → IfSome before (λ input. IsInputFor Play input → length input ≤ input_limit
    → (¬ Rose reads_before reads_after) → (¬ Rose writes_before writes_after)
    → (status ≡ statuses.Ok) ⊎ (status ≡ statuses.OutOfMemory))
run_complete None after rb ra hb ha wb wa status run = tt
run_complete (Some input) after rb ra hb ha wb wa statuses.Ok run = λ fits short calm quiet. inl refl
run_complete (Some input) after rb ra hb ha wb wa statuses.BadText run = λ fits short calm quiet.
    absurd (no_other run.due.input input (GivesAll-known (Some input) after run.due.input run.due.read) run.due.no_input fits)
run_complete (Some input) after rb ra hb ha wb wa statuses.TooManySpans run = λ fits short calm quiet. absurd run
run_complete (Some input) after rb ra hb ha wb wa statuses.Usage run = λ fits short calm quiet. absurd run
run_complete (Some input) after rb ra hb ha wb wa statuses.ReadFault run = λ fits short calm quiet. absurd (calm run.0)
run_complete (Some input) after rb ra hb ha wb wa statuses.WriteFault run = λ fits short calm quiet. absurd (quiet run.0)
run_complete (Some input) after rb ra hb ha wb wa statuses.TooLong run = λ fits short calm quiet. too_many input after _ run.0 short
run_complete (Some input) after rb ra hb ha wb wa statuses.OutOfMemory run = λ fits short calm quiet. inr refl

-- a text that is no input for a play
pub run_wrong : (before after : Option (List ℕ)) (reads_before reads_after : ℕ) (held_before held_after : Option (List ℕ))
    (writes_before writes_after : ℕ) (status : Status)
    → HasRun before after reads_before reads_after held_before held_after writes_before writes_after status
    → IfSome before (λ input. (¬ IsInputFor Play input) → length input ≤ input_limit
    → (¬ Rose reads_before reads_after) → (¬ Rose writes_before writes_after)
    → (status ≡ statuses.BadText) ⊎ (status ≡ statuses.OutOfMemory))
run_wrong None after rb ra hb ha wb wa status run = tt
run_wrong (Some input) after rb ra hb ha wb wa statuses.Ok run = λ no_input short calm quiet.
    absurd (no_input (drawn_for run.due.input input run.text (GivesAll-known (Some input) after run.due.input run.due.read) run.due.drawn))
run_wrong (Some input) after rb ra hb ha wb wa statuses.BadText run = λ no_input short calm quiet. inl refl
run_wrong (Some input) after rb ra hb ha wb wa statuses.TooManySpans run = λ no_input short calm quiet. absurd run
run_wrong (Some input) after rb ra hb ha wb wa statuses.Usage run = λ no_input short calm quiet. absurd run
run_wrong (Some input) after rb ra hb ha wb wa statuses.ReadFault run = λ no_input short calm quiet. absurd (calm run.0)
run_wrong (Some input) after rb ra hb ha wb wa statuses.WriteFault run = λ no_input short calm quiet. absurd (quiet run.0)
run_wrong (Some input) after rb ra hb ha wb wa statuses.TooLong run = λ no_input short calm quiet. too_many input after _ run.0 short
run_wrong (Some input) after rb ra hb ha wb wa statuses.OutOfMemory run = λ no_input short calm quiet. inr refl
