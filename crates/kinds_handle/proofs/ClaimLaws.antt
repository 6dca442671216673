-- Claims of kinds: the job that is given fits its kind, and put back it leaves all kinds as they were.
use Rattle.std.proofs.Common.{◌≡◌, ℕ, ◌<◌, List, [], ◌∷◌, length, get_or, Option, Some, None, Result, Ok, Err, ap, refl, sym, ◌∙◌, subst, arith}
use Rattle.std.specs.Prelude.{IfSome, OnErr, slice_get, option_map}
use Rattle.std.proofs.lemmas.Option.{slice_get-get_or}
use Rattle.build_queue.specs.BookState.{BookState}
use Rattle.build_queue.specs.declared.live.Job.{Job}
use Rattle.build_queue.specs.Steps.{IsJob, after_claim, after_put_back, next_job}
use Rattle.nav_book.proofs.StepLaws.{is_given}
use Rattle.nav_handle.specs.Works.{Working, begun}
use Rattle.agent_kinds.specs.Firsts.{at_found, at_kind, first_job}
use Rattle.agent_kinds.specs.Kinds.{AreKinds}
use Rattle.kinds_handle.specs.KindJobs.{IsDueWork, IsJobOfKind, work_of}
use Rattle.kinds_handle.proofs.FirstKinds.{few_found, found_below, length-at_kind}
use Rattle.kinds_handle.proofs.KindPlaces.{after_at, at_rest, at_twice, found_there}

-- what holds however a result came out holds where it is refused
pub on_err : {A E : Type 0} {P : Type 0} (told : Result A E) → P → OnErr told P
on_err (Ok x) holds = tt
on_err (Err why) holds = holds

-- a kind that was claimed of has its ground
kept_rules : (o : Option BookState) (job : Job) → IfSome o (λ state. IsJob state.ground.setting job)
    → IfSome (option_map after_claim o) (λ state. IsJob state.ground.setting job)
kept_rules None job rules = tt
kept_rules (Some state) job rules = rules

kept_work : (o : Option BookState) (job : Job)
    → option_map (λ (state : BookState). begun state.ground job) (option_map after_claim o) ≡ option_map (λ (state : BookState). begun state.ground job) o
kept_work None job = refl
kept_work (Some state) job = refl

module _ (old new : List BookState) (given : Option (ℕ × Job)) (kind : ℕ) (job : Job) (due : given ≡ first_job old) (some : given ≡ Some (kind, job))
    (state : new ≡ at_found after_claim (first_job old) old) where
  due_is : first_job old ≡ Some (kind, job)
  due_is = sym due ∙ some

  claimed_at : new ≡ at_kind kind after_claim old
  claimed_at = state ∙ ap (λ (o : Option (ℕ × Job)). at_found after_claim o old) due_is

  pub claim_fits : IfSome given (λ first. IfSome (slice_get old first.0) (λ it. IsJob it.ground.setting first.1)) → AreKinds new → IsJobOfKind new kind job
  claim_fits fit kinds =
      let many : length new ≡ length old = ap length claimed_at ∙ length-at_kind kind after_claim old in
      let below = found_below next_job 0 old (kind, job) due_is in
      let own : IfSome (slice_get old kind) (λ it. IsJob it.ground.setting job) =
      subst (λ (o : Option (ℕ × Job)). IfSome o (λ first. IfSome (slice_get old first.0) (λ it. IsJob it.ground.setting first.1))) some fit in
      record {
        there = omega (arith, below, many);
        few = few_found next_job old (kind, job) (omega (arith, many, kinds.few)) due_is;
        job_rules = subst (λ (o : Option BookState). IfSome o (λ it. IsJob it.ground.setting job))
            (sym (ap (λ (list : List BookState). slice_get list kind) claimed_at ∙ after_at kind after_claim old)) (kept_rules (slice_get old kind) job own);
      }

  pub claim_told : (told : ℕ) (work : Working) → told ≡ kind → Some work ≡ work_of new kind job → IsDueWork old (first_job old) (Some (told, work))
  claim_told told work same is =
      subst (λ (o : Option (ℕ × Job)). IsDueWork old o (Some (told, work))) (sym due_is) (
        same,
        is
            ∙ ap (λ (list : List BookState). work_of list kind job) claimed_at
            ∙ ap (option_map (λ (it : BookState). begun it.ground job)) (after_at kind after_claim old)
            ∙ kept_work (slice_get old kind) job,
      )

-- put back, it leaves all as it was
undone : (old : List BookState) (kind : ℕ) (job : Job) → first_job old ≡ Some (kind, job)
    → at_kind kind (λ (it : BookState). after_put_back it job.tile) (at_kind kind after_claim old) ≡ old
undone [] kind job found =
    let below = found_below next_job 0 [] (kind, job) found in absurd (omega (arith, below))
undone (first ∷ more) kind job found =
    let states : List BookState = first ∷ more in
    let below = found_below next_job 0 states (kind, job) found in
    let there : kind < length states = omega (arith, below) in
    let here : slice_get states kind ≡ Some (get_or states kind first) = slice_get-get_or states kind first there in
    at_twice kind (λ (it : BookState). after_put_back it job.tile) after_claim states
    ∙ at_rest kind (λ (it : BookState). after_put_back (after_claim it) job.tile) states (get_or states kind first) here
    (is_given (get_or states kind first) (Some job) job (sym (found_there next_job kind job states (get_or states kind first) found here)) refl).back

pub claim_undone : (old new last : List BookState) (given : Option (ℕ × Job)) (kind : ℕ) (job : Job) → given ≡ first_job old → given ≡ Some (kind, job)
    → new ≡ at_found after_claim (first_job old) old → last ≡ at_kind kind (λ (it : BookState). after_put_back it job.tile) new → last ≡ old
claim_undone old new last given kind job due some state back =
    back ∙ ap (at_kind kind (λ (it : BookState). after_put_back it job.tile)) (claimed_at old new given kind job due some state)
    ∙ undone old kind job (due_is old new given kind job due some state)
