-- What the clauses of the top call say, from how a run went.
use Rattle.std.proofs.Common.{◌≡◌, ℕ, ◌+◌, ◌≤◌, ◌⊎◌, List, [], ◌∷◌, length, get_or, arith, ap, subst, sym, ◌∙◌, refl, inl, inr}
use Rattle.std.specs.Prelude.{Option, Some, None, IfSome, String, codes}
use Rattle.std.specs.declared.alloc.Global.{Global}
use Rattle.std.specs.Io.KnownBytes.{Appends, Keeps}
use Rattle.std.proofs.lemmas.List.{length-append}
use Rattle.nav_io.specs.Causes.{Rose, GivesAll, TookMany, HasMore}
use Rattle.nav_io.proofs.Laws.{GivesAll-known}
use Rattle.nav_record.specs.FrameTexts.{usage_text, too_long_text}
use Rattle.nav_script.specs.declared.script.Way.{Way}
use Rattle.nav_script.specs.declared.script.Way.TheVariants.{Play, Live}
use Rattle.top_call.specs.declared.words.Status.{Status}
use Rattle.top_call.specs.declared.words.Status.TheVariants as statuses
use Rattle.top_call.specs.Courses.{HasRun}
use Rattle.top_call.specs.Endings.{HasEnded}
use Rattle.top_call.specs.Inputs.{IsInputFor, IsRunText, input_limit}
use Rattle.top_call.specs.Outcomes.{IsDue, HasTold, HasToldMany, HasBroken, HasDone}
use Rattle.top_call.specs.Outsides.{Outside, outside_of}
use Rattle.top_call.specs.Words.{IsForm, IsReadForm, IsRasterForm, IsWayForm, IsGen, word_for}

-- an input with a text of its run is in the grammar
input_for : (way : Way) (bytes text : List ℕ) → IsRunText way bytes text → IsInputFor way bytes
input_for way bytes text ran = ran.fits

-- words that are one list and another have the same first letters
first_letter : List (List ℕ) → ℕ
first_letter words = get_or (get_or words 0 []) 0 0

-- the two words differ
two_words : codes "play" ∷ [] ≡ codes "live" ∷ [] → ⊥
unfolding first_letter
two_words same = let first : get_or (codes "play") 0 0 ≡ get_or (codes "live") 0 0 = ap first_letter same in omega (arith, first)

-- the words ask for one way at most
same_way : (words : List (String Global)) (way other : Way) → IsWayForm way words → IsWayForm other words → way ≡ other
same_way words Play Play form there = refl
same_way words Play Live form there = absurd (two_words (sym form ∙ there))
same_way words Live Play form there = absurd (two_words (sym there ∙ form))
same_way words Live Live form there = refl

-- an input for one way that the words ask for is an input for the other
same_input : (words : List (String Global)) (way other : Way) (input known : List ℕ) → IsWayForm way words → IsWayForm other words
    → input ≡ known → IsInputFor way input → IsInputFor other known
same_input words way other input known form there same fits =
    let W : Way → Type 0 = λ w. IsInputFor w known in
    let I : List ℕ → Type 0 = λ xs. IsInputFor way xs in
    subst W (same_way words way other form there) (subst I same fits)

-- one word is no form of three
pub one_form : (words : List (String Global)) (Goal : Type 0) → IsReadForm words → IsGen words → Goal
one_form words Goal (inl runs) gen =
    let one : 1 ≡ 3 = ap (λ xs. length xs) (sym runs.form ∙ gen.form.spelled) in absurd (omega (arith, one))
one_form words Goal (inr raster) gen =
    let one : 1 ≡ 3 = ap (λ xs. length xs) (sym raster ∙ gen.form.spelled) in absurd (omega (arith, one))

-- the words ask for an input to be read, as they ask for a way to run one
pub reads_for : (words : List (String Global)) (way : Way) → IsWayForm way words → IsReadForm words
reads_for words way form = inl (record { way = way; form = form })

-- the word `raster` is no other
other_word : (way : Way) → codes "raster" ∷ [] ≡ word_for way ∷ [] → ⊥
unfolding first_letter
other_word Play same = let first : get_or (codes "raster") 0 0 ≡ get_or (codes "play") 0 0 = ap first_letter same in omega (arith, first)
other_word Live same = let first : get_or (codes "raster") 0 0 ≡ get_or (codes "live") 0 0 = ap first_letter same in omega (arith, first)

pub one_word : (words : List (String Global)) (way : Way) (Goal : Type 0) → IsWayForm way words → IsRasterForm words → Goal
one_word words way Goal runs raster = absurd (other_word way (sym raster ∙ runs))

-- a text that was read to its end within the limit is no longer
pub not_more : (before after : Option (List ℕ)) (bytes : List ℕ) (Goal : Type 0) → GivesAll before after bytes → length bytes ≤ input_limit
    → HasMore before input_limit → Goal
not_more None after bytes Goal gave short more = absurd more
not_more (Some known) after bytes Goal gave short more =
    let same : length bytes ≡ length known = ap (λ xs. length xs) (GivesAll-known (Some known) after bytes gave) in
    absurd (omega (arith, same, short, more))

-- a known text that more bytes were taken from than the limit is longer
pub too_many : (input : List ℕ) (after : Option (List ℕ)) (Goal : Type 0) → TookMany (Some input) after (input_limit + 1)
    → length input ≤ input_limit → Goal
too_many input None Goal (bytes, many, gone) short = absurd gone
too_many input (Some rest) Goal (bytes, many, gone) short =
    let both : length input ≡ length bytes + length rest = ap (λ xs. length xs) gone ∙ length-append bytes rest in
    absurd (omega (arith, both, many, short))

module _ (words : List (String Global)) (before after : Outside) where
  -- so it ran
  abbrev LiveRun : Status → Type 0
  LiveRun status = HasRun words before after status

  -- a run that ends by writing: with the status that is due, or with WriteFault
  pub wrote : (text : List ℕ) (due status : Status) → HasEnded before.held after.held before.write_faults after.write_faults text due status
      → IsDue words before.left after.left text → (Appends before.held after.held text → LiveRun due) → LiveRun status
  wrote text due status ended is_due well = elim ended [
    | inl whole ↦ subst LiveRun (sym whole.0) (well whole.1)
    | inr part ↦ subst LiveRun (sym part.0) (part.1, record { text = text; due = is_due; written = part.2 })
  ]

  -- the clauses of one status each
  pub run_ok : (status : Status) → LiveRun status → status ≡ statuses.Ok → HasDone words before after
  run_ok status run is = subst LiveRun is run

  pub run_too_many : (status : Status) → LiveRun status → status ≡ statuses.TooManySpans → HasToldMany words before after
  run_too_many status run is = subst LiveRun is run

  pub run_bad_text : (status : Status) → LiveRun status → status ≡ statuses.BadText → HasTold words before after
  run_bad_text status run is = subst LiveRun is run

  pub run_usage : (status : Status) → LiveRun status → status ≡ statuses.Usage
      → (¬ IsForm words) × Appends before.held after.held usage_text × (after.left ≡ before.left)
  run_usage status run is = subst LiveRun is run

  pub run_read_fault : (status : Status) → LiveRun status → status ≡ statuses.ReadFault
      → IsReadForm words × Rose before.read_faults after.read_faults × Keeps before.held after.held
  run_read_fault status run is = subst LiveRun is run

  pub run_write_fault : (status : Status) → LiveRun status → status ≡ statuses.WriteFault
      → Rose before.write_faults after.write_faults × HasBroken words before after
  run_write_fault status run is = subst LiveRun is run

  pub run_too_long : (status : Status) → LiveRun status → status ≡ statuses.TooLong
      → IsReadForm words × TookMany before.left after.left (input_limit + 1) × Appends before.held after.held too_long_text
  run_too_long status run is = subst LiveRun is run

  pub run_no_memory : (status : Status) → LiveRun status → status ≡ statuses.OutOfMemory → Keeps before.held after.held
  run_no_memory status run is = (subst LiveRun is run).1

  -- words in no form
  pub run_no_form : (status : Status) → LiveRun status → (¬ IsForm words) → (status ≡ statuses.Usage) ⊎ (status ≡ statuses.WriteFault)
  run_no_form statuses.Ok run none = absurd (none (elim run [
    | inl answered ↦ inl (reads_for words answered.due.read.way answered.due.read.form)
    | inr (inl summed) ↦ inr summed.due.gen
    | inr (inr rastered) ↦ inl (inr rastered.due.read.form)
  ]))
  run_no_form statuses.BadText run none = absurd (none (elim run [
    | inl told ↦ inl (reads_for words told.due.read.way told.due.read.form)
    | inr level ↦ inl (inr level.due.read.form)
  ]))
  run_no_form statuses.TooManySpans run none = absurd (none (inl (inr run.due.read.form)))
  run_no_form statuses.Usage run none = inl refl
  run_no_form statuses.ReadFault run none = absurd (none (inl run.0))
  run_no_form statuses.WriteFault run none = inr refl
  run_no_form statuses.TooLong run none = absurd (none (inl run.0))
  run_no_form statuses.OutOfMemory run none = absurd (none run.0)

  -- more than may be read
  pub run_more : (status : Status) → LiveRun status → IsReadForm words → HasMore before.left input_limit
      → (¬ Rose before.read_faults after.read_faults) → (¬ Rose before.write_faults after.write_faults)
      → (status ≡ statuses.TooLong) ⊎ (status ≡ statuses.OutOfMemory)
  run_more statuses.Ok run form more calm quiet = elim run [
    | inl answered ↦ not_more before.left after.left answered.due.read.input _ answered.due.read.read answered.due.read.short more
    | inr (inl summed) ↦ one_form words _ form summed.due.gen
    | inr (inr rastered) ↦ not_more before.left after.left rastered.due.input _ rastered.due.read.read rastered.due.read.short more
  ]
  run_more statuses.BadText run form more calm quiet = elim run [
    | inl told ↦ not_more before.left after.left told.due.read.input _ told.due.read.read told.due.read.short more
    | inr level ↦ not_more before.left after.left level.due.input _ level.due.read.read level.due.read.short more
  ]
  run_more statuses.TooManySpans run form more calm quiet = not_more before.left after.left run.due.input _ run.due.read.read run.due.read.short more
  run_more statuses.Usage run form more calm quiet = absurd (run.0 (inl form))
  run_more statuses.ReadFault run form more calm quiet = absurd (calm run.1)
  run_more statuses.WriteFault run form more calm quiet = absurd (quiet run.0)
  run_more statuses.TooLong run form more calm quiet = inl refl
  run_more statuses.OutOfMemory run form more calm quiet = inr refl

  -- a made input
  pub run_made : (status : Status) → LiveRun status → IsGen words → (¬ Rose before.write_faults after.write_faults)
      → (status ≡ statuses.Ok) ⊎ (status ≡ statuses.OutOfMemory)
  run_made statuses.Ok run gen quiet = inl refl
  run_made statuses.BadText run gen quiet = elim run [
    | inl told ↦ one_form words _ (reads_for words told.due.read.way told.due.read.form) gen
    | inr level ↦ one_form words _ (inr level.due.read.form) gen
  ]
  run_made statuses.TooManySpans run gen quiet = one_form words _ (inr run.due.read.form) gen
  run_made statuses.Usage run gen quiet = absurd (run.0 (inr gen))
  run_made statuses.ReadFault run gen quiet = one_form words _ run.0 gen
  run_made statuses.WriteFault run gen quiet = absurd (quiet run.0)
  run_made statuses.TooLong run gen quiet = one_form words _ run.0 gen
  run_made statuses.OutOfMemory run gen quiet = inr refl

-- an input for the way that the words ask for
pub run_complete : (words : List (String Global)) (before after : Option (List ℕ)) (reads_before reads_after : ℕ)
    (held_before held_after : Option (List ℕ)) (writes_before writes_after : ℕ) (status : Status)
    → HasRun words (outside_of before reads_before held_before writes_before) (outside_of after reads_after held_after writes_after) status
    → IfSome before (λ input. (way : Way) → IsWayForm way words → IsInputFor way input → length input ≤ input_limit
    → (¬ Rose reads_before reads_after) → (¬ Rose writes_before writes_after)
    → (status ≡ statuses.Ok) ⊎ (status ≡ statuses.OutOfMemory))
run_complete words None after rb ra hb ha wb wa status run = tt
run_complete words (Some input) after rb ra hb ha wb wa statuses.Ok run = λ way form fits short calm quiet. inl refl
run_complete words (Some input) after rb ra hb ha wb wa statuses.BadText run = λ way form fits short calm quiet. elim run [
  | inl told ↦
      let same = GivesAll-known (Some input) after told.due.read.input told.due.read.read in
      absurd (told.due.no_input (same_input words way told.due.read.way input told.due.read.input form told.due.read.form (sym same) fits))
  | inr level ↦ one_word words way _ form level.due.read.form
]
run_complete words (Some input) after rb ra hb ha wb wa statuses.TooManySpans run = λ way form fits short calm quiet.
    one_word words way _ form run.due.read.form
run_complete words (Some input) after rb ra hb ha wb wa statuses.Usage run = λ way form fits short calm quiet.
    absurd (run.0 (inl (reads_for words way form)))
run_complete words (Some input) after rb ra hb ha wb wa statuses.ReadFault run = λ way form fits short calm quiet. absurd (calm run.1)
run_complete words (Some input) after rb ra hb ha wb wa statuses.WriteFault run = λ way form fits short calm quiet. absurd (quiet run.0)
run_complete words (Some input) after rb ra hb ha wb wa statuses.TooLong run = λ way form fits short calm quiet. too_many input after _ run.1 short
run_complete words (Some input) after rb ra hb ha wb wa statuses.OutOfMemory run = λ way form fits short calm quiet. inr refl

-- a text that is no input for the way that the words ask for
pub run_wrong : (words : List (String Global)) (before after : Option (List ℕ)) (reads_before reads_after : ℕ)
    (held_before held_after : Option (List ℕ)) (writes_before writes_after : ℕ) (status : Status)
    → HasRun words (outside_of before reads_before held_before writes_before) (outside_of after reads_after held_after writes_after) status
    → IfSome before (λ input. (way : Way) → IsWayForm way words → (¬ IsInputFor way input) → length input ≤ input_limit
    → (¬ Rose reads_before reads_after) → (¬ Rose writes_before writes_after)
    → (status ≡ statuses.BadText) ⊎ (status ≡ statuses.OutOfMemory))
run_wrong words None after rb ra hb ha wb wa status run = tt
run_wrong words (Some input) after rb ra hb ha wb wa statuses.Ok run = λ way form no_input short calm quiet. elim run [
  | inl answered ↦
      let due = answered.due in
      absurd (no_input (same_input words due.read.way way due.read.input input due.read.form form (GivesAll-known (Some input) after due.read.input due.read.read)
      (input_for due.read.way due.read.input answered.text due.ran)))
  | inr (inl summed) ↦
      one_form words _ (reads_for words way form) summed.due.gen
  | inr (inr rastered) ↦ one_word words way _ form rastered.due.read.form
]
run_wrong words (Some input) after rb ra hb ha wb wa statuses.TooManySpans run = λ way form no_input short calm quiet.
    one_word words way _ form run.due.read.form
run_wrong words (Some input) after rb ra hb ha wb wa statuses.BadText run = λ way form no_input short calm quiet. inl refl
run_wrong words (Some input) after rb ra hb ha wb wa statuses.Usage run = λ way form no_input short calm quiet.
    absurd (run.0 (inl (reads_for words way form)))
run_wrong words (Some input) after rb ra hb ha wb wa statuses.ReadFault run = λ way form no_input short calm quiet. absurd (calm run.1)
run_wrong words (Some input) after rb ra hb ha wb wa statuses.WriteFault run = λ way form no_input short calm quiet. absurd (quiet run.0)
run_wrong words (Some input) after rb ra hb ha wb wa statuses.TooLong run = λ way form no_input short calm quiet. too_many input after _ run.1 short
run_wrong words (Some input) after rb ra hb ha wb wa statuses.OutOfMemory run = λ way form no_input short calm quiet. inr refl
