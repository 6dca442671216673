-- Jobs of kinds over the border: tiles that are claimed of them, with the kind, and handed in or put back to the kind that was told.
use Rattle.std.specs.Prelude.{◌≡◌, ◌⊎◌, ℕ, ◌<◌, ◌≤◌, Bool, true, false, List, length, slice_get, Option, Some, None, option_map, IfSome, ⊤}
use Rattle.build_queue.specs.declared.live.Job.{Job}
use Rattle.build_queue.specs.declared.live.Submitted.{Submitted}
use Rattle.build_queue.specs.declared.live.Submitted.TheVariants.{Taken, Stale}
use Rattle.build_queue.specs.BookState.{BookState}
use Rattle.build_queue.specs.Steps.{IsJob, after_claim, after_put_back, after_submit, submission}
use Rattle.agent_kinds.specs.Firsts.{at_kind, first_job}
use Rattle.nav_handle.specs.Works.{IsOf, Working, begun}
use Rattle.nav_handle.specs.Statuses as status

-- how a claim ended, which kind and tile it told, and what the two handles hold then
pub record KindsClaimed : Type 0 where
  pub status : ℕ
  pub kind : ℕ
  pub tile : ℕ
  pub held : Option (List BookState)
  pub job : Option Working

-- the job of a tile of a kind, with the ground of that kind
abbrev pub work_of : List BookState → ℕ → Job → Option Working
work_of states kind job = option_map (λ (state : BookState). begun state.ground job) (slice_get states kind)

-- a claim gives the least tile that can be claimed of the least kind that has one; where there is none, nothing is done
abbrev pub claimed_by : List BookState → ℕ → ℕ → Option (ℕ × Job) → KindsClaimed
claimed_by states kind tile (Some first) = record {
  status = status.ok;
  kind = first.0;
  tile = first.1.tile;
  held = Some (at_kind first.0 after_claim states);
  job = work_of states first.0 first.1;
}
claimed_by states kind tile None = record { status = status.same; kind = kind; tile = tile; held = Some states; job = None }

-- a claim of what a handle holds, into a job's handle that holds nothing; unless memory is refused, and then nothing is done
abbrev pub AreClaimed : Option (List BookState) → Option Working → ℕ → ℕ → KindsClaimed → Type 0
AreClaimed None job kind tile ended = ended ≡ record { status = status.empty; kind = kind; tile = tile; held = None; job = job }
AreClaimed (Some states) (Some work) kind tile ended =
    ended ≡ record { status = status.busy; kind = kind; tile = tile; held = Some states; job = Some work }
AreClaimed (Some states) None kind tile ended =
    (ended ≡ claimed_by states kind tile (first_job states))
    ⊎ (ended ≡ record { status = status.no_memory; kind = kind; tile = tile; held = Some states; job = None })

-- how a call of kinds and a job ended, and what the two handles hold then
pub record KindsHanded : Type 0 where
  pub status : ℕ
  pub held : Option (List BookState)
  pub job : Option Working

-- how a build that was handed in ends
abbrev pub taken_status : Submitted → ℕ
taken_status Taken = status.ok
taken_status Stale = status.stale

-- a job that is built is handed in to a kind; one that is not stays
abbrev pub handed_by : Bool → List BookState → ℕ → BookState → Working → KindsHanded
handed_by true states kind state work = record {
  status = taken_status (submission state work.job.tile work.job.shapes);
  held = Some (at_kind kind (λ (it : BookState). after_submit it work.job.tile work.job.shapes) states);
  job = None;
}
handed_by false states kind state work = record { status = status.not_yet; held = Some states; job = Some work }

-- so does one of another ground than the kind has in the tile, and there is no kind of this number
pub record IsHandedTo (states : List BookState) (kind : ℕ) (state : BookState) (work : Working) (ended : KindsHanded) : Type 0 where
  pub own : IsOf work state.ground → ended ≡ handed_by work.built states kind state work
  pub foreign : (IsOf work state.ground → ⊥) → ended ≡ record { status = status.foreign; held = Some states; job = Some work }

abbrev pub IsHandedAt : Option BookState → List BookState → ℕ → Working → KindsHanded → Type 0
IsHandedAt None states kind work ended = ended ≡ record { status = status.out_of_range; held = Some states; job = Some work }
IsHandedAt (Some state) states kind work ended = IsHandedTo states kind state work ended

abbrev pub AreHandedIn : Option (List BookState) → ℕ → Option Working → KindsHanded → Type 0
AreHandedIn None kind job ended = ended ≡ record { status = status.empty; held = None; job = job }
AreHandedIn (Some states) kind None ended = ended ≡ record { status = status.empty; held = Some states; job = None }
AreHandedIn (Some states) kind (Some work) ended = IsHandedAt (slice_get states kind) states kind work ended

-- a job is put back to a kind; one of another ground stays
pub record IsBackTo (states : List BookState) (kind : ℕ) (state : BookState) (work : Working) (ended : KindsHanded) : Type 0 where
  pub own : IsOf work state.ground
      → ended ≡ record { status = status.ok; held = Some (at_kind kind (λ (it : BookState). after_put_back it work.job.tile) states); job = None }
  pub foreign : (IsOf work state.ground → ⊥) → ended ≡ record { status = status.foreign; held = Some states; job = Some work }

abbrev pub IsBackAt : Option BookState → List BookState → ℕ → Working → KindsHanded → Type 0
IsBackAt None states kind work ended = ended ≡ record { status = status.out_of_range; held = Some states; job = Some work }
IsBackAt (Some state) states kind work ended = IsBackTo states kind state work ended

abbrev pub ArePutBack : Option (List BookState) → ℕ → Option Working → KindsHanded → Type 0
ArePutBack None kind job ended = ended ≡ record { status = status.empty; held = None; job = job }
ArePutBack (Some states) kind None ended = ended ≡ record { status = status.empty; held = Some states; job = None }
ArePutBack (Some states) kind (Some work) ended = IsBackAt (slice_get states kind) states kind work ended

-- whether a job may go back to a kind: 0 where it is of its ground
abbrev pub IsKnownAt : Option BookState → Working → ℕ → Type 0
IsKnownAt None work ended = ended ≡ status.out_of_range
IsKnownAt (Some state) work ended =
    (IsOf work state.ground × (ended ≡ status.ok)) ⊎ ((IsOf work state.ground → ⊥) × (ended ≡ status.foreign))

-- a job is of the ground of a kind that is there
abbrev pub IsJobAt : Option BookState → Working → Type 0
IsJobAt None work = ⊥
IsJobAt (Some state) work = IsOf work state.ground

-- what a claim gives where something is due: the kind, and its job with the ground of the kind
abbrev pub IsDueWork : List BookState → Option (ℕ × Job) → Option (ℕ × Working) → Type 0
IsDueWork states None None = ⊤
IsDueWork states None (Some told) = ⊥
IsDueWork states (Some first) None = ⊥
IsDueWork states (Some first) (Some told) = (told.0 ≡ first.0) × (Some told.1 ≡ work_of states first.0 first.1)

-- a job of a kind that is there, by its ground
pub record IsJobOfKind (states : List BookState) (kind : ℕ) (job : Job) : Type 0 where
  pub there : kind < length states
  pub few : kind ≤ 16
  pub job_rules : IfSome (slice_get states kind) (λ state. IsJob state.ground.setting job)
