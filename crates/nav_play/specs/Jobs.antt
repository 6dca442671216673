-- The steps of workers, each of which holds one tile that it built, or nothing.
use Rattle.std.specs.Prelude.{ℕ, ◌&&◌, if◌then◌else◌, Option, is_none, is_some}
use Rattle.std.specs.Option.{option_map_or}
use Rattle.build_queue.specs.declared.live.Job.{Job}
use Rattle.build_queue.specs.declared.live.Published.{Published}
use Rattle.build_queue.specs.declared.live.Published.TheVariants as publications
use Rattle.build_queue.specs.declared.live.Submitted.{Submitted}
use Rattle.build_queue.specs.declared.live.Submitted.TheVariants as submissions
use Rattle.build_queue.specs.BookState.{BookState}
use Rattle.build_queue.specs.Steps.{after_claim, after_put_back, after_submit, next_job, submission}
use Rattle.nav_record.specs.declared.step.StepAnswer.{StepAnswer}
use Rattle.nav_record.specs.declared.step.StepAnswer.TheVariants as answers

-- a claim: a worker that holds a tile is busy; any other gets the job that the book gives, if it gives one, and holds that tile's build
abbrev pub job_said : ℕ → Option Job → StepAnswer
job_said worker given = option_map_or (λ (job : Job). answers.Claimed worker job.tile) given (answers.NoTile worker)

-- what a claim is answered
abbrev pub claim_said : BookState → ℕ → Option Job → StepAnswer
claim_said book worker held = if is_some held then answers.Busy worker else job_said worker (next_job book)

-- what the worker holds after a claim
abbrev pub held_after_claim : BookState → Option Job → Option Job
held_after_claim book held = if is_some held then held else next_job book

-- the book after a claim: as it was where the worker holds a tile
abbrev pub book_after_claim : BookState → Option Job → BookState
book_after_claim book held = if is_some held then book else after_claim book

-- how many jobs a claim gives
abbrev pub jobs_of_claim : BookState → Option Job → ℕ
jobs_of_claim book held = if is_none held && is_some (next_job book) then 1 else 0

-- a worker puts back the job of the tile that it holds, if it holds one, and holds nothing afterwards
abbrev pub back_said : ℕ → Option Job → StepAnswer
back_said worker held = option_map_or (λ (job : Job). answers.Back worker job.tile) held (answers.Idle worker)

-- the book after a worker put its job back
abbrev pub book_after_back : BookState → Option Job → BookState
book_after_back book held = option_map_or (λ (job : Job). after_put_back book job.tile) held book

-- a worker submits the tile that it holds, if it holds one, and holds nothing afterwards
abbrev pub submission_said : ℕ → ℕ → Submitted → StepAnswer
submission_said worker tile submissions.Taken = answers.Taken worker tile
submission_said worker tile submissions.Stale = answers.Stale worker tile

-- what a submit is answered: a worker that holds nothing is idle
abbrev pub submit_said : BookState → ℕ → Option Job → StepAnswer
submit_said book worker held =
    option_map_or (λ (job : Job). submission_said worker job.tile (submission book job.tile job.shapes)) held (answers.Idle worker)

-- the book after a submit
abbrev pub book_after_submit : BookState → Option Job → BookState
book_after_submit book held = option_map_or (λ (job : Job). after_submit book job.tile job.shapes) held book

-- what a publish is answered
abbrev pub publication_said : Published → StepAnswer
publication_said (publications.New k) = answers.Published k
publication_said (publications.Same k) = answers.Same k
publication_said (publications.NotYet tile) = answers.NotYet tile
