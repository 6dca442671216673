-- Jobs over the border: tiles that are claimed of a level, built from the job alone, and handed in or put back.
use Rattle.std.specs.Prelude.{◌≡◌, ◌⊎◌, ℕ, Bool, true, false, Option, Some, None}
use Rattle.nav_ground.specs.declared.history.Ground.{Ground}
use Rattle.build_queue.specs.declared.live.Submitted.{Submitted}
use Rattle.build_queue.specs.declared.live.Submitted.TheVariants.{Taken, Stale}
use Rattle.build_queue.specs.BookState.{BookState}
use Rattle.build_queue.specs.Steps.{after_claim, after_put_back, after_put_back_all, after_submit, submission}
use Rattle.nav_handle.specs.Works.{IsOf, Working, built, next_work}
use Rattle.nav_handle.specs.Statuses as status

-- how a claim ended, which tile it told, and what the two handles hold then
pub record Claimed : Type 0 where
  pub status : ℕ
  pub number : ℕ
  pub level : Option BookState
  pub job : Option Working

-- a claim gives the least tile that is awaited and not claimed, where there is one; where there is none, nothing is done
abbrev pub claimed_by : BookState → ℕ → Option Working → Claimed
claimed_by state before (Some work) = record { status = status.ok; number = work.job.tile; level = Some (after_claim state); job = Some work }
claimed_by state before None = record { status = status.same; number = before; level = Some state; job = None }

-- a claim of what a handle holds, into a job's handle that holds nothing; unless memory is refused, and then nothing is done
abbrev pub IsClaimed : Option BookState → Option Working → ℕ → Claimed → Type 0
IsClaimed None job before ended = ended ≡ record { status = status.empty; number = before; level = None; job = job }
IsClaimed (Some state) (Some work) before ended =
    ended ≡ record { status = status.busy; number = before; level = Some state; job = Some work }
IsClaimed (Some state) None before ended =
    (ended ≡ claimed_by state before (next_work state))
    ⊎ (ended ≡ record { status = status.no_memory; number = before; level = Some state; job = None })

-- a build of a job that is not built yet; unless memory is refused, and then nothing is done
abbrev pub IsBuiltNow : Bool → Working → Option Working → ℕ → Type 0
IsBuiltNow true work after ended = (ended ≡ status.same) × (after ≡ Some work)
IsBuiltNow false work after ended =
    ((ended ≡ status.ok) × (after ≡ Some (built work))) ⊎ ((ended ≡ status.no_memory) × (after ≡ Some work))

abbrev pub IsBuilt : Option Working → Option Working → ℕ → Type 0
IsBuilt None after ended = (ended ≡ status.empty) × (after ≡ None)
IsBuilt (Some work) after ended = IsBuiltNow work.built work after ended

-- how a call of a level and a job ended, and what the two handles hold then
pub record Handed : Type 0 where
  pub status : ℕ
  pub level : Option BookState
  pub job : Option Working

-- how a build that was handed in ends
abbrev pub submit_status : Submitted → ℕ
submit_status Taken = status.ok
submit_status Stale = status.stale

-- whether a job may be handed in: it is of the level's ground, and is built
abbrev pub readiness : Bool → ℕ
readiness true = status.ok
readiness false = status.not_yet

pub record IsReady (work : Working) (ground : Ground) (ended : ℕ) : Type 0 where
  pub ready : IsOf work ground → ended ≡ readiness work.built
  pub foreign : (IsOf work ground → ⊥) → ended ≡ status.foreign
  pub own : (ended ≡ status.foreign → ⊥) → IsOf work ground

-- a job that is built is submitted; one that is not stays, as does one of another ground
abbrev pub submitted : Bool → BookState → Working → Handed
submitted true state work = record {
  status = submit_status (submission state work.job.tile work.job.shapes);
  level = Some (after_submit state work.job.tile work.job.shapes);
  job = None;
}
submitted false state work = record { status = status.not_yet; level = Some state; job = Some work }

pub record IsSubmitted (state : BookState) (work : Working) (ended : Handed) : Type 0 where
  pub own : IsOf work state.ground → ended ≡ submitted work.built state work
  pub foreign : (IsOf work state.ground → ⊥) → ended ≡ record { status = status.foreign; level = Some state; job = Some work }

abbrev pub IsHandedIn : Option BookState → Option Working → Handed → Type 0
IsHandedIn None job ended = ended ≡ record { status = status.empty; level = None; job = job }
IsHandedIn (Some state) None ended = ended ≡ record { status = status.empty; level = Some state; job = None }
IsHandedIn (Some state) (Some work) ended = IsSubmitted state work ended

-- a job is put back; one of another ground stays
pub record IsGivenBack (state : BookState) (work : Working) (ended : Handed) : Type 0 where
  pub own : IsOf work state.ground → ended ≡ record { status = status.ok; level = Some (after_put_back state work.job.tile); job = None }
  pub foreign : (IsOf work state.ground → ⊥) → ended ≡ record { status = status.foreign; level = Some state; job = Some work }

abbrev pub IsPutBack : Option BookState → Option Working → Handed → Type 0
IsPutBack None job ended = ended ≡ record { status = status.empty; level = None; job = job }
IsPutBack (Some state) None ended = ended ≡ record { status = status.empty; level = Some state; job = None }
IsPutBack (Some state) (Some work) ended = IsGivenBack state work ended

-- all claims are ended
abbrev pub AreFree : Option BookState → Option BookState → ℕ → Type 0
AreFree None after ended = (ended ≡ status.empty) × (after ≡ None)
AreFree (Some state) after ended = (ended ≡ status.ok) × (after ≡ Some (after_put_back_all state))
