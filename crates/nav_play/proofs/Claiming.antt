-- What a claim comes to.
use Rattle.std.proofs.Common.{◌≡◌, ℕ, ◌+◌, List, set, get_or, ap, ◌∙◌, sym, subst, refl, arith, true, false, Option, None, Some}
use Rattle.std.specs.Prelude.{is_some, if◌then◌else◌}
use Rattle.std.proofs.lemmas.Bool.{both_ways}
use Rattle.nav_ground.specs.declared.history.Ground.{Ground}
use Rattle.build_queue.specs.declared.live.Job.{Job}
use Rattle.build_queue.specs.BookState.{BookState}
use Rattle.build_queue.specs.Steps.{after_claim, next_job}
use Rattle.nav_book.specs.declared.book.TileResult.{TileResult}
use Rattle.nav_book.specs.Results.{IsBuild, job_built}
use Rattle.nav_record.specs.declared.step.StepAnswer.TheVariants as answers
use Rattle.nav_base.specs.Counts.{HasRisenAtMost}
use Rattle.nav_play.specs.Claims.{HasClaimed}
use Rattle.nav_play.specs.Jobs.{book_after_claim, claim_said, held_after_claim, job_said, jobs_of_claim}
use Rattle.nav_play.specs.Players.{AreHeld, held_job}
use Rattle.nav_play.proofs.Held.{claim_jobs, held_set, idle, job_held, jobs_same}

-- 1 where a claim gave a job, else 0
abbrev jobs_given : Option Job → ℕ
jobs_given job = if is_some job then 1 else 0

-- a worker that holds a tile is busy
pub busy_claims : (book : BookState) (held : List (Option TileResult)) (worker n : ℕ) → is_some (get_or held worker None) ≡ true → AreHeld book.ground held
    → HasClaimed worker book book held held n n (answers.Busy worker)
busy_claims book held worker n busy each = by_case (get_or held worker None) refl busy
  where
    by_case : (o : Option TileResult) → o ≡ get_or held worker None → is_some o ≡ true → HasClaimed worker book book held held n n (answers.Busy worker)
    by_case None is none = absurd (both_ways false refl none)
    by_case (Some made) is some =
        let job : held_job held worker ≡ Some (job_built made) = job_held held worker (Some made) is in
        let count : jobs_of_claim book (held_job held worker) ≡ 0 = ap (jobs_of_claim book) job in
        record {
          said = sym (ap (claim_said book worker) job);
          state = sym (ap (book_after_claim book) job);
          jobs = jobs_same held worker (held_after_claim book (held_job held worker)) (job ∙ sym (ap (held_after_claim book) job));
          builds = each;
          count = omega (arith, count);
        }

-- one that holds none is given no tile where there is none
pub none_claimed : (book after : BookState) (held : List (Option TileResult)) (worker n : ℕ) (given : Option Job) → is_some (get_or held worker None) ≡ false
    → given ≡ next_job book → given ≡ None → after ≡ after_claim book → AreHeld book.ground held
    → HasClaimed worker book after held held n n (answers.NoTile worker)
none_claimed book after held worker n given free next_is is claimed each =
    let job : held_job held worker ≡ None = idle held worker free in
    let next : next_job book ≡ None = sym next_is ∙ is in
    let count : jobs_of_claim book (held_job held worker) ≡ 0 = ap (jobs_of_claim book) job ∙ ap jobs_given next in
    record {
      said = sym (ap (claim_said book worker) job ∙ ap (job_said worker) next);
      state = claimed ∙ sym (ap (book_after_claim book) job);
      jobs = jobs_same held worker (held_after_claim book (held_job held worker)) (job ∙ sym (ap (held_after_claim book) job ∙ next));
      builds = each;
      count = omega (arith, count);
    }

-- and else holds what it is given
pub tile_claimed : (book after : BookState) (held left : List (Option TileResult)) (worker n m : ℕ) (given : Option Job) (job : Job) (made : TileResult)
    → is_some (get_or held worker None) ≡ false
    → given ≡ next_job book → given ≡ Some job → after ≡ after_claim book → job_built made ≡ job → IsBuild after.ground made
    → left ≡ set held worker (Some made) → m ≡ n + 1 → AreHeld book.ground held
    → HasClaimed worker book after held left n m (answers.Claimed worker job.tile)
tile_claimed book after held left worker n m given job made free next_is is claimed same build hold step each =
    let none : held_job held worker ≡ None = idle held worker free in
    let next : next_job book ≡ Some job = sym next_is ∙ is in
    let count : jobs_of_claim book (held_job held worker) ≡ 1 = ap (jobs_of_claim book) none ∙ ap jobs_given next in
    record {
      said = sym (ap (claim_said book worker) none ∙ ap (job_said worker) next);
      state = claimed ∙ sym (ap (book_after_claim book) none);
      jobs = claim_jobs book held left worker made given job free hold next_is is same;
      builds = held_set book.ground held left worker (Some made) hold each (subst (λ (ground : Ground). IsBuild ground made) (ap (λ (b : BookState). b.ground) claimed) build);
      count = omega (arith, step, count);
    }

-- a claim takes one step at most, and that only where it is given a tile
pub no_step : (n s : ℕ) → HasRisenAtMost n s s
no_step n s = record { least = omega arith; most_risen = omega arith }

pub one_step : (book : BookState) (held : List (Option TileResult)) (worker n m : ℕ) (given : Option Job) (job : Job) → is_some (get_or held worker None) ≡ false
    → given ≡ next_job book → given ≡ Some job → m ≡ n + 1 → HasRisenAtMost (jobs_of_claim book (held_job held worker)) n m
one_step book held worker n m given job free next_is is step =
    let count : jobs_of_claim book (held_job held worker) ≡ 1 = ap (jobs_of_claim book) (idle held worker free) ∙ ap jobs_given (sym next_is ∙ is) in
    record { least = omega (arith, step); most_risen = omega (arith, step, count) }
