-- What workers hold, and the jobs of that.
use Rattle.std.proofs.Common.{◌≡◌, ℕ, zero, suc, ◌<◌, List, ◌∷◌, length, get_or, set, replicate, ap, ◌∙◌, sym, subst, refl, arith, true, false, Option, None, Some}
use Rattle.std.specs.Prelude.{is_some}
use Rattle.std.specs.Option.{option_map}
use Rattle.std.proofs.lemmas.Bool.{both_ways}
use Rattle.std.proofs.Math.ListN.{get_or-map}
use Rattle.std.proofs.lemmas.List.{get_or-replicate, length-map, length-replicate, map-set, set-get_or}
use Rattle.std.proofs.lemmas.List.Elements.{All-set}
use Rattle.nav_ground.specs.declared.history.Ground.{Ground}
use Rattle.build_queue.specs.declared.live.Job.{Job}
use Rattle.build_queue.specs.BookState.{BookState}
use Rattle.build_queue.specs.declared.live.Submitted.{Submitted}
use Rattle.build_queue.specs.Steps.{next_job, submission}
use Rattle.nav_play.specs.Jobs.{held_after_claim, submission_said, submit_said}
use Rattle.nav_book.specs.declared.book.TileResult.{TileResult}
use Rattle.nav_book.specs.Results.{job_built}
use Rattle.nav_play.specs.Players.{AreHeld, IsHeld, held_job, jobs_of_held}

-- the job of what a worker holds
pub job_held : (held : List (Option TileResult)) (worker : ℕ) (made : Option TileResult) → made ≡ get_or held worker None
    → held_job held worker ≡ option_map job_built made
job_held held worker made is = get_or-map (option_map job_built) held worker None ∙ ap (option_map job_built) (sym is)

-- what another holds changes its job alone
pub jobs_set : (held after : List (Option TileResult)) (worker : ℕ) (made : Option TileResult) → after ≡ set held worker made
    → jobs_of_held after ≡ set (jobs_of_held held) worker (option_map job_built made)
jobs_set held after worker made is = ap jobs_of_held is ∙ map-set (option_map job_built) held worker made

-- a worker that holds on to what it holds
pub jobs_same : (held : List (Option TileResult)) (worker : ℕ) (job : Option Job) → held_job held worker ≡ job
    → jobs_of_held held ≡ set (jobs_of_held held) worker job
jobs_same held worker job is = sym (ap (set (jobs_of_held held) worker) (sym is) ∙ set-get_or (jobs_of_held held) worker None)

-- what workers hold stays built where one more build stands, or nothing
pub held_set : (ground : Ground) (held after : List (Option TileResult)) (worker : ℕ) (made : Option TileResult) → after ≡ set held worker made
    → AreHeld ground held → IsHeld ground made → AreHeld ground after
held_set ground held after worker made is each one = subst (AreHeld ground) (sym is) (All-set (IsHeld ground) held worker made one each)

pub held_at : (ground : Ground) (held : List (Option TileResult)) (worker : ℕ) (made : Option TileResult) → AreHeld ground held → worker < length held
    → made ≡ get_or held worker None → IsHeld ground made
held_at ground held worker made each there is = subst (IsHeld ground) (sym is) (each worker None there)

pub held_none : (ground : Ground) (held : List (Option TileResult)) (n : ℕ) → held ≡ replicate n None → AreHeld ground held
held_none ground held n is =
    subst (AreHeld ground) (sym is) (λ k d there.
    subst (IsHeld ground) (sym (get_or-replicate n k None d (omega (arith, there, length-replicate n (none_held))))) tt)
  where
    none_held : Option TileResult
    none_held = None

-- where none holds anything, none has a job
none_of : (n : ℕ) → jobs_of_held (replicate n None) ≡ replicate n None
none_of zero = refl
none_of (suc n) = ap (λ (jobs : List (Option Job)). None ∷ jobs) (none_of n)

pub jobs_none : (held after : List (Option TileResult)) → after ≡ replicate (length held) None
    → jobs_of_held after ≡ replicate (length (jobs_of_held held)) None
jobs_none held after is =
    ap jobs_of_held is ∙ none_of (length held) ∙ ap (λ (n : ℕ). replicate n None) (sym (length-map held (option_map job_built)))

pub jobs_begun : (held : List (Option TileResult)) (n : ℕ) → held ≡ replicate n None → jobs_of_held held ≡ replicate n None
jobs_begun held n is = ap jobs_of_held is ∙ none_of n

-- a worker that is not busy has no job
pub idle : (held : List (Option TileResult)) (worker : ℕ) → is_some (get_or held worker None) ≡ false → held_job held worker ≡ None
idle held worker free = by_case (get_or held worker None) refl free
  where
    by_case : (o : Option TileResult) → o ≡ get_or held worker None → is_some o ≡ false → held_job held worker ≡ None
    by_case None is none = job_held held worker None is
    by_case (Some made) is none = absurd (both_ways true none refl)

-- what a worker is answered that submits what it holds
pub submit_answers : (book : BookState) (held : List (Option TileResult)) (worker : ℕ) (made : TileResult) (answer : Submitted) → Some made ≡ get_or held worker None
    → answer ≡ submission book made.tile made.shapes → submission_said worker made.tile answer ≡ submit_said book worker (held_job held worker)
submit_answers book held worker made answer is said =
    ap (submission_said worker made.tile) said ∙ sym (ap (submit_said book worker) (job_held held worker (Some made) is))

-- an idle worker holds the build of the job that it is given
pub claim_jobs : (book : BookState) (held after : List (Option TileResult)) (worker : ℕ) (made : TileResult) (given : Option Job) (job : Job)
    → is_some (get_or held worker None) ≡ false → after ≡ set held worker (Some made) → given ≡ next_job book → given ≡ Some job → job_built made ≡ job
    → jobs_of_held after ≡ set (jobs_of_held held) worker (held_after_claim book (held_job held worker))
claim_jobs book held after worker made given job free is next_is some same =
    jobs_set held after worker (Some made) is
    ∙ ap (set (jobs_of_held held) worker)
    (ap (λ (j : Job). Some j) same ∙ sym some ∙ next_is ∙ sym (ap (held_after_claim book) (idle held worker free)))
