-- Runs on the word `raster`.
use Rattle.std.proofs.Common.{◌≡◌, ℕ, ◌≤◌, ◌⊎◌, List, length, subst, sym, refl, inl, inr}
use Rattle.std.specs.Prelude.{Option, Some, None, IfSome, String}
use Rattle.std.specs.declared.alloc.Global.{Global}
use Rattle.nav_ground.specs.declared.setting.Setting.{Setting}
use Rattle.nav_io.specs.Causes.{Rose, GivesAll}
use Rattle.nav_io.proofs.Laws.{GivesAll-known}
use Rattle.tri_raster.specs.declared.triangle.Tri.{Tri}
use Rattle.tri_raster.specs.Rasters.{IsRaster, HasManySpans}
use Rattle.tri_raster.proofs.RasterLaws.{many_or_few}
use Rattle.top_call.specs.declared.words.Status.{Status}
use Rattle.top_call.specs.declared.words.Status.TheVariants as statuses
use Rattle.top_call.specs.Courses.{HasRun}
use Rattle.top_call.specs.Endings.{HasEnded}
use Rattle.top_call.specs.Inputs.{input_limit}
use Rattle.top_call.specs.Outsides.{Outside, outside_of}
use Rattle.top_call.specs.Triangles.{IsLevel, HasFewSpans, HasTooManySpans, IsRasterText, IsOverfull, TellsTriFault, too_many_text, HasReadLevel, IsFieldDue, IsTriFaultDue, IsManyDue}
use Rattle.top_call.specs.Words.{IsRasterForm}
use Rattle.top_call.proofs.CourseLaws.{wrote, one_form, one_word, too_many}

module _ (before after : Outside) (input bytes written text : List ℕ) (status : Status)
    (gave : GivesAll before.left after.left input) (short : length input ≤ input_limit) (same : bytes ≡ input) (as_text : written ≡ text)
    (words : List (String Global)) (form : IsRasterForm words) where
  read : HasReadLevel words before.left after.left input
  read = record { form = form; read = gave; short = short }

  -- a run that was to write the field of what was read
  pub rastered_run : IsRasterText bytes text → HasEnded before.held after.held before.write_faults after.write_faults written statuses.Ok status → HasRun words before after status
  rastered_run raster ended =
      let B : List ℕ → Type 0 = λ xs. IsRasterText xs text in
      let due : IsFieldDue words before.left after.left written =
      record { input = input; read = read; raster = subst (IsRasterText input) (sym as_text) (subst B same raster) } in
      wrote words before after written statuses.Ok status ended (inr (inr (inr (inr (inr (inl due))))))
      (λ there. inr (inr (record { text = written; due = due; written = there })))

  -- a run that was to write the fault of what was read
  pub told_run : TellsTriFault bytes text → HasEnded before.held after.held before.write_faults after.write_faults written statuses.BadText status → HasRun words before after status
  told_run tells ended =
      let B : List ℕ → Type 0 = λ xs. TellsTriFault xs text in
      let due : IsTriFaultDue words before.left after.left written =
      record { input = input; read = read; tells = subst (TellsTriFault input) (sym as_text) (subst B same tells) } in
      wrote words before after written statuses.BadText status ended (inr (inr (inr (inr (inr (inr (inl due)))))))
      (λ there. inr (record { text = written; due = due; written = there }))

-- a run that was to tell of too many spans
pub many_run : (before after : Outside) (input bytes : List ℕ) (status : Status)
    → GivesAll before.left after.left input → length input ≤ input_limit → bytes ≡ input → IsOverfull bytes
    → HasEnded before.held after.held before.write_faults after.write_faults too_many_text statuses.TooManySpans status → (words : List (String Global)) → IsRasterForm words
    → HasRun words before after status
many_run before after input bytes status gave short same over ended words form =
    let read : HasReadLevel words before.left after.left input = record { form = form; read = gave; short = short } in
    let due : IsManyDue words before.left after.left too_many_text = record { input = input; read = read; over = subst IsOverfull same over; told = refl } in
    wrote words before after too_many_text statuses.TooManySpans status ended (inr (inr (inr (inr (inr (inr (inr due)))))))
    (λ there. record { text = too_many_text; due = due; written = there })

-- what is read one way only has not both too many spans and few
clash : (bytes : List ℕ) → IsOverfull bytes → HasFewSpans bytes → ⊥
clash bytes over fits =
    let level = over.one.level in
    let other = fits.level in
    let same = over.one.only other in
    let S : Setting → Type 0 = λ s. IsRaster s other.tris fits.field in
    let T : List Tri → Type 0 = λ ts. IsRaster level.setting ts fits.field in
    many_or_few level.setting level.tris fits.field over.many (subst T same.2 (subst S same.0 fits.raster)) fits.few

clash_other : (bytes text : List ℕ) → IsRasterText bytes text → HasTooManySpans bytes → ⊥
clash_other bytes text raster over =
    let level = raster.one.level in
    let other = over.level in
    let same = raster.one.only other in
    let S : Setting → Type 0 = λ s. HasManySpans s other.tris in
    let T : List Tri → Type 0 = λ ts. HasManySpans level.setting ts in
    many_or_few level.setting level.tris raster.field (subst T same.2 (subst S same.0 over.many)) raster.raster raster.few

-- a triangle text with few spans
pub run_raster : (words : List (String Global)) (before after : Option (List ℕ)) (rb ra : ℕ) (hb ha : Option (List ℕ)) (wb wa : ℕ) (status : Status)
    → HasRun words (outside_of before rb hb wb) (outside_of after ra ha wa) status
    → IfSome before (λ input. IsRasterForm words → HasFewSpans input → length input ≤ input_limit → (¬ Rose rb ra) → (¬ Rose wb wa)
    → (status ≡ statuses.Ok) ⊎ (status ≡ statuses.OutOfMemory))
run_raster words None after rb ra hb ha wb wa status run = tt
run_raster words (Some input) after rb ra hb ha wb wa statuses.Ok run = λ form fits short calm quiet. inl refl
run_raster words (Some input) after rb ra hb ha wb wa statuses.BadText run = λ form fits short calm quiet. elim run [
  | inl told ↦ one_word words told.due.read.way _ told.due.read.form form
  | inr level ↦
      let same : level.due.input ≡ input = GivesAll-known (Some input) after level.due.input level.due.read.read in
      absurd (level.due.tells.no_level (subst IsLevel (sym same) fits.level))
]
run_raster words (Some input) after rb ra hb ha wb wa statuses.Usage run = λ form fits short calm quiet. absurd (run.0 (inl (inr form)))
run_raster words (Some input) after rb ra hb ha wb wa statuses.ReadFault run = λ form fits short calm quiet. absurd (calm run.1)
run_raster words (Some input) after rb ra hb ha wb wa statuses.WriteFault run = λ form fits short calm quiet. absurd (quiet run.0)
run_raster words (Some input) after rb ra hb ha wb wa statuses.TooLong run = λ form fits short calm quiet. too_many input after _ run.1 short
run_raster words (Some input) after rb ra hb ha wb wa statuses.OutOfMemory run = λ form fits short calm quiet. inr refl
run_raster words (Some input) after rb ra hb ha wb wa statuses.TooManySpans run = λ form fits short calm quiet.
    let same : run.due.input ≡ input = GivesAll-known (Some input) after run.due.input run.due.read.read in
    absurd (clash input (subst IsOverfull same run.due.over) fits)

-- no triangle text
pub run_no_level : (words : List (String Global)) (before after : Option (List ℕ)) (rb ra : ℕ) (hb ha : Option (List ℕ)) (wb wa : ℕ) (status : Status)
    → HasRun words (outside_of before rb hb wb) (outside_of after ra ha wa) status
    → IfSome before (λ input. IsRasterForm words → (¬ IsLevel input) → length input ≤ input_limit → (¬ Rose rb ra) → (¬ Rose wb wa)
    → (status ≡ statuses.BadText) ⊎ (status ≡ statuses.OutOfMemory))
run_no_level words None after rb ra hb ha wb wa status run = tt
run_no_level words (Some input) after rb ra hb ha wb wa statuses.Ok run = λ form none short calm quiet. elim run [
  | inl answered ↦ one_word words answered.due.read.way _ answered.due.read.form form
  | inr (inl summed) ↦ one_form words _ (inr form) summed.due.gen
  | inr (inr rastered) ↦
      let same : rastered.due.input ≡ input = GivesAll-known (Some input) after rastered.due.input rastered.due.read.read in
      absurd (none (subst IsLevel same rastered.due.raster.one.level))
]
run_no_level words (Some input) after rb ra hb ha wb wa statuses.BadText run = λ form none short calm quiet. inl refl
run_no_level words (Some input) after rb ra hb ha wb wa statuses.Usage run = λ form none short calm quiet. absurd (run.0 (inl (inr form)))
run_no_level words (Some input) after rb ra hb ha wb wa statuses.ReadFault run = λ form none short calm quiet. absurd (calm run.1)
run_no_level words (Some input) after rb ra hb ha wb wa statuses.WriteFault run = λ form none short calm quiet. absurd (quiet run.0)
run_no_level words (Some input) after rb ra hb ha wb wa statuses.TooLong run = λ form none short calm quiet. too_many input after _ run.1 short
run_no_level words (Some input) after rb ra hb ha wb wa statuses.OutOfMemory run = λ form none short calm quiet. inr refl
run_no_level words (Some input) after rb ra hb ha wb wa statuses.TooManySpans run = λ form none short calm quiet.
    let same : run.due.input ≡ input = GivesAll-known (Some input) after run.due.input run.due.read.read in
    absurd (none (subst IsLevel same run.due.over.one.level))

-- a triangle text with too many spans
pub run_many : (words : List (String Global)) (before after : Option (List ℕ)) (rb ra : ℕ) (hb ha : Option (List ℕ)) (wb wa : ℕ) (status : Status)
    → HasRun words (outside_of before rb hb wb) (outside_of after ra ha wa) status
    → IfSome before (λ input. IsRasterForm words → HasTooManySpans input → length input ≤ input_limit → (¬ Rose rb ra) → (¬ Rose wb wa)
    → (status ≡ statuses.TooManySpans) ⊎ (status ≡ statuses.OutOfMemory))
run_many words None after rb ra hb ha wb wa status run = tt
run_many words (Some input) after rb ra hb ha wb wa statuses.Ok run = λ form over short calm quiet. elim run [
  | inl answered ↦ one_word words answered.due.read.way _ answered.due.read.form form
  | inr (inl summed) ↦ one_form words _ (inr form) summed.due.gen
  | inr (inr rastered) ↦
      let same : rastered.due.input ≡ input = GivesAll-known (Some input) after rastered.due.input rastered.due.read.read in
      absurd (clash_other rastered.due.input rastered.text rastered.due.raster (subst HasTooManySpans (sym same) over))
]
run_many words (Some input) after rb ra hb ha wb wa statuses.BadText run = λ form over short calm quiet. elim run [
  | inl told ↦ one_word words told.due.read.way _ told.due.read.form form
  | inr level ↦
      let same : level.due.input ≡ input = GivesAll-known (Some input) after level.due.input level.due.read.read in
      absurd (level.due.tells.no_level (subst IsLevel (sym same) over.level))
]
run_many words (Some input) after rb ra hb ha wb wa statuses.Usage run = λ form over short calm quiet. absurd (run.0 (inl (inr form)))
run_many words (Some input) after rb ra hb ha wb wa statuses.ReadFault run = λ form over short calm quiet. absurd (calm run.1)
run_many words (Some input) after rb ra hb ha wb wa statuses.WriteFault run = λ form over short calm quiet. absurd (quiet run.0)
run_many words (Some input) after rb ra hb ha wb wa statuses.TooLong run = λ form over short calm quiet. too_many input after _ run.1 short
run_many words (Some input) after rb ra hb ha wb wa statuses.OutOfMemory run = λ form over short calm quiet. inr refl
run_many words (Some input) after rb ra hb ha wb wa statuses.TooManySpans run = λ form over short calm quiet. inl refl
