-- What a step makes of what kinds have in common.
use Rattle.std.proofs.Common.{◌≡◌, ℕ, ◌+◌, Bool, true, false, List, [], ◌∷◌, ◌++◌, length, Option, Some, None, Result, Ok, Err, ap, ◌∙◌, sym, subst, refl}
use Rattle.std.specs.Prelude.{◌==◌, if◌then◌else◌, slice_set}
use Rattle.std.specs.Option.{option_map_or}
use Rattle.nav_ground.specs.declared.history.Entry.{Entry}
use Rattle.nav_ground.specs.declared.history.Ground.{Ground}
use Rattle.nav_ground.specs.declared.history.Reply.{Reply}
use Rattle.nav_ground.specs.declared.history.Request.{Request}
use Rattle.nav_ground.specs.declared.shape.Shape.{Shape}
use Rattle.nav_ground.specs.History.{alive_after, history_limit, reply_to}
use Rattle.build_queue.specs.declared.live.HistoryFull.{HistoryFull}
use Rattle.build_queue.specs.BookState.{BookState, least_claimable}
use Rattle.build_queue.specs.Renewal.{AddsAgain}
use Rattle.build_queue.specs.StepContracts.{IsRenewStep}
use Rattle.build_queue.specs.Steps.{after_aim, after_claim, after_publish, after_put_back, after_put_back_all, after_request, after_submit, requested}
use Rattle.build_queue.proofs.Renewals.{only_adds}
use Rattle.nav_book.specs.Settling.{after_job, after_step}
use Rattle.agent_kinds.specs.declared.publish.KindsPublished.{KindsPublished}
use Rattle.agent_kinds.specs.declared.publish.KindsPublished.TheVariants.{New, Same}
use Rattle.agent_kinds.specs.Kinds.{IsShownAsBefore}
use Rattle.agent_kinds.proofs.AtOne.{CommonState, common_of}

-- a request: what it is answered, and what it leaves
abbrev pub told_of : Request → CommonState → Result (ℕ × Reply) HistoryFull
told_of request common =
    if length common.history == history_limit then Err (record { len = length common.history })
    else Ok (length common.history + 1, reply_to common.limit common.history request)

abbrev pub with_entry : ℕ → Request → CommonState → CommonState
with_entry lane request common = record common {
  history = common.history ++ record { lane = lane; request = request; reply = reply_to common.limit common.history request } ∷ [];
}

abbrev pub common_requested : ℕ → Request → CommonState → CommonState
common_requested lane request common = if length common.history == history_limit then common else with_entry lane request common

pub requested_common : (lane : ℕ) (request : Request) (state : BookState)
    → common_of (requested state lane request) ≡ common_requested lane request (common_of state)
requested_common lane request state = by_test (length state.history == history_limit)
  where
    by_test : (b : Bool) → common_of (if b then state else after_request state lane request) ≡ (if b then common_of state else with_entry lane request (common_of state))
    by_test true = refl
    by_test false = refl

-- an aim
abbrev pub common_aimed : CommonState → CommonState
common_aimed common = record common { target = length common.history }

pub aimed_common : (state : BookState) → common_of (after_aim state) ≡ common_aimed (common_of state)
aimed_common state = refl

-- jobs change nothing of it
abbrev pub unchanged : CommonState → CommonState
unchanged common = common

pub put_back_all_common : (state : BookState) → common_of (after_put_back_all state) ≡ unchanged (common_of state)
put_back_all_common state = refl

pub put_back_common : (tile : ℕ) (state : BookState) → common_of (after_put_back state tile) ≡ unchanged (common_of state)
put_back_common tile state = refl

pub claimed_common : (state : BookState) → common_of (after_claim state) ≡ unchanged (common_of state)
claimed_common state = refl

pub submitted_common : (tile : ℕ) (shapes : List Shape) (state : BookState) → common_of (after_submit state tile shapes) ≡ unchanged (common_of state)
submitted_common tile shapes state = refl

pub stepped_common : (state : BookState) → common_of (after_step state) ≡ unchanged (common_of state)
stepped_common state = by_case (least_claimable state)
  where
    by_case : (o : Option ℕ) → common_of (option_map_or (after_job state) o state) ≡ common_of state
    by_case None = refl
    by_case (Some tile) = refl

-- a step that builds nothing changes nothing
pub idle_step : (state : BookState) → least_claimable state ≡ None → after_step state ≡ state
idle_step state none = ap (λ (o : Option ℕ). option_map_or (after_job state) o state) none

pub idle_claim : (state : BookState) → least_claimable state ≡ None → after_claim state ≡ state
idle_claim state none = λ i. record state { claimed = option_map_or (λ (tile : ℕ). slice_set state.claimed tile true) (none i) state.claimed }

pub shown_common : (before after : BookState) → IsShownAsBefore before after → common_of after ≡ unchanged (common_of before)
shown_common before after shown = λ i. record {
  field = (shown.ground i).field;
  limit = (shown.ground i).setting.limit;
  history = shown.history i;
  target = shown.target i;
  published = shown.published i;
}

-- a publish, once no tile is awaited
abbrev pub common_published : CommonState → CommonState
common_published common = record common { published = common.target }

pub published_common : (before after : BookState) → after ≡ after_publish before → after.published ≡ before.target
    → common_of after ≡ common_published (common_of before)
published_common before after is shown = λ i. record {
  field = (is i).ground.field;
  limit = (is i).ground.setting.limit;
  history = (is i).history;
  target = (is i).target;
  published = shown i;
}

-- of two that are begun again, what they have in common
pub renewed_common : (a b after other : BookState) → common_of a ≡ common_of b → IsRenewStep a after → IsRenewStep b other → common_of after ≡ common_of other
renewed_common a b after other same first second =
    let one : a.history ≡ b.history = ap (λ (c : CommonState). c.history) same in
    let history : after.history ≡ other.history =
    only_adds b.history (alive_after b.history (length b.history)) after.history other.history
    (subst (λ (h : List Entry). AddsAgain h (alive_after h (length h)) after.history) one first.renewed.history) second.renewed.history in
    let field : after.ground.field ≡ other.ground.field =
    ap (λ (g : Ground). g.field) first.renewed.ground ∙ ap (λ (c : CommonState). c.field) same ∙ sym (ap (λ (g : Ground). g.field) second.renewed.ground) in
    let limit : after.ground.setting.limit ≡ other.ground.setting.limit =
    ap (λ (g : Ground). g.setting.limit) first.renewed.ground ∙ ap (λ (c : CommonState). c.limit) same ∙ sym (ap (λ (g : Ground). g.setting.limit) second.renewed.ground) in
    let target : after.target ≡ other.target = first.renewed.target ∙ ap (λ (h : List Entry). length h) history ∙ sym second.renewed.target in
    let published : after.published ≡ other.published = first.renewed.published ∙ ap (λ (h : List Entry). length h) history ∙ sym second.renewed.published in
    λ i. record { field = field i; limit = limit i; history = history i; target = target i; published = published i }

-- a tile that is built shows nothing more
step_shown : (state : BookState) → IsShownAsBefore state (after_step state)
step_shown state = by_case (least_claimable state)
  where
    by_case : (o : Option ℕ) → IsShownAsBefore state (option_map_or (after_job state) o state)
    by_case None = record { ground = refl; history = refl; target = refl; published = refl }
    by_case (Some tile) = record { ground = refl; history = refl; target = refl; published = refl }

pub shown_after : (first state next : BookState) → IsShownAsBefore first state → next ≡ after_step state → IsShownAsBefore first next
shown_after first state next shown is =
    let step = step_shown state in
    subst (λ (s : BookState). IsShownAsBefore first s) (sym is) (record {
      ground = step.ground ∙ shown.ground;
      history = step.history ∙ shown.history;
      target = step.target ∙ shown.target;
      published = step.published ∙ shown.published;
    })

pub shown_still : (first state next : BookState) → IsShownAsBefore first state → next ≡ state → IsShownAsBefore first next
shown_still first state next shown is = subst (λ (s : BookState). IsShownAsBefore first s) (sym is) shown

-- what a publish is answered where no tile is awaited
abbrev pub lengths_told : CommonState → KindsPublished
lengths_told common = if common.target == common.published then Same common.published else New common.target
