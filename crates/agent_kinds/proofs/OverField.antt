-- Kinds stay over their field, whatever is done in them but a change of the ground; and what is so of the field is so of each of them.
use Rattle.std.proofs.Common.{◌≡◌, ℕ, zero, suc, ◌≤◌, ◌<◌, Bool, true, false, List, [], ◌∷◌, length, get_or, map, Option, Some, None, refl, ap, ◌∙◌, sym, subst, arith}
use Rattle.std.specs.Prelude.{All, if◌then◌else◌}
use Rattle.std.specs.List.{AllZip}
use Rattle.std.specs.Option.{option_map_or}
use Rattle.std.proofs.lemmas.List.{get_or-map, length-map}
use Rattle.std.proofs.lemmas.List.Elements.{All-cons, All-map, All-tail}
use Rattle.nav_ground.specs.declared.field.Field.{Field}
use Rattle.nav_ground.specs.declared.setting.Setting.{Setting}
use Rattle.nav_ground.specs.declared.history.Ground.{Ground}
use Rattle.nav_ground.specs.declared.history.Request.{Request}
use Rattle.build_queue.specs.BookState.{BookState, first_state, least_claimable}
use Rattle.build_queue.specs.StepContracts.{IsRenewStep}
use Rattle.build_queue.specs.Steps.{after_publish, after_request, is_full, requested}
use Rattle.nav_book.specs.Openings.{ground_of}
use Rattle.nav_book.specs.Settling.{after_job, after_step}
use Rattle.agent_kinds.specs.declared.publish.KindsPublished.{KindsPublished}
use Rattle.agent_kinds.specs.declared.publish.KindsPublished.TheVariants.{Same}
use Rattle.agent_kinds.specs.Firsts.{at_found, at_kind, first_awaited}
use Rattle.agent_kinds.specs.KindGrounds.{AreOver, after_change, over_field}
use Rattle.agent_kinds.specs.KindOpenings.{first_kinds}
use Rattle.agent_kinds.specs.Kinds.{AreKinds}
use Rattle.agent_kinds.specs.KindSteps.{after_publish_all, publication_by, published_unless}
use Rattle.agent_kinds.proofs.Resting.{same_to_all, unchanged_ground}

-- a state is over a field
abbrev IsOver : Field → BookState → Type 0
IsOver field state = state.ground.field ≡ field

-- what is so of the field is so of that of each kind, and the other way round
pub of_each : (P : Field → Type 0) (field : Field) (states : List BookState) → AreOver field states → P field
    → All (λ (state : BookState). P state.ground.field) states
of_each P field states over is = λ k d there. subst P (sym (over k d there)) is

pub of_field : (P : Field → Type 0) (field : Field) (states : List BookState) → 1 ≤ length states → AreOver field states
    → All (λ (state : BookState). P state.ground.field) states → P field
of_field P field [] some over all = absurd (omega (arith, some))
of_field P field (state ∷ more) some over all = subst P (over 0 state (omega arith)) (all 0 state (omega arith))

-- opened kinds
pub over_opened : (settings : List Setting) (field : Field) → AreOver field (first_kinds settings field)
over_opened settings field =
    All-map (IsOver field) (λ (setting : Setting). first_state (ground_of setting field)) settings (λ k d there. refl)

-- steps of all kinds
pub over_all : (step : BookState → BookState) (field : Field) (states : List BookState) → ((state : BookState) → (step state).ground ≡ state.ground)
    → AreOver field states → AreOver field (map step states)
over_all step field states same over =
    All-map (IsOver field) step states (λ k d there. ap (λ (g : Ground). g.field) (same (get_or states k d)) ∙ over k d there)

pub kept_request : (lane : ℕ) (request : Request) (state : BookState) → (requested state lane request).ground ≡ state.ground
kept_request lane request state = by_test (is_full state)
  where
    by_test : (b : Bool) → (if b then state else after_request state lane request).ground ≡ state.ground
    by_test true = refl
    by_test false = refl

-- steps of one kind
pub over_at : (step : BookState → BookState) (field : Field) → ((state : BookState) → (step state).ground ≡ state.ground) → (kind : ℕ)
    (states : List BookState) → AreOver field states → AreOver field (at_kind kind step states)
unfolding at_kind
over_at step field same kind [] over = over
over_at step field same zero (state ∷ more) over =
    All-cons (IsOver field) (step state) more (ap (λ (g : Ground). g.field) (same state) ∙ over 0 state (omega arith))
    (All-tail (IsOver field) state more over)
over_at step field same (suc kind) (state ∷ more) over =
    All-cons (IsOver field) state (at_kind kind step more) (over 0 state (omega arith))
    (over_at step field same kind more (All-tail (IsOver field) state more over))

pub over_found : {X : Type 0} (step : BookState → BookState) (field : Field) → ((state : BookState) → (step state).ground ≡ state.ground)
    → (found : Option (ℕ × X)) (states : List BookState) → AreOver field states → AreOver field (at_found step found states)
over_found step field same (Some first) states over = over_at step field same first.0 states over
over_found step field same None states over = over

pub kept_step : (state : BookState) → (after_step state).ground ≡ state.ground
kept_step state = by_tile (least_claimable state)
  where
    by_tile : (o : Option ℕ) → (option_map_or (after_job state) o state).ground ≡ state.ground
    by_tile (Some tile) = refl
    by_tile None = refl

-- a publish
pub over_published : (field : Field) (states : List BookState) → AreOver field states → AreOver field (after_publish_all states)
over_published field states over = by_found (first_awaited states)
  where
    by_found : (found : Option (ℕ × ℕ)) → AreOver field (published_unless found states)
    by_found (Some awaited) = over
    by_found None = over_all after_publish field states (λ state. refl) over

-- a renewal
pub over_renewed : (field : Field) (before after : List BookState) → AllZip IsRenewStep before after → AreOver field before → AreOver field after
over_renewed field [] [] zip over = over
over_renewed field [] (b ∷ bs) zip over = absurd zip
over_renewed field (a ∷ as') [] zip over = absurd zip
over_renewed field (a ∷ as') (b ∷ bs) zip over =
    All-cons (IsOver field) b bs (ap (λ (g : Ground). g.field) zip.0.renewed.ground ∙ over 0 a (omega arith))
    (over_renewed field as' bs zip.1 (All-tail (IsOver field) a as' over))

-- kinds with the grounds that they had
pub over_grounds : (field : Field) (before after : List BookState)
    → map (λ (state : BookState). state.ground) after ≡ map (λ (state : BookState). state.ground) before → AreOver field before → AreOver field after
over_grounds field before after same over = λ k d there.
    let ground_in : BookState → Ground = λ state. state.ground in
    let within : k < length before = omega (arith, there, ap length same, length-map after ground_in, length-map before ground_in) in
    let at : (get_or after k d).ground ≡ (get_or before k d).ground =
    sym (get_or-map ground_in after k d d.ground there) ∙ ap (λ (list : List Ground). get_or list k d.ground) same
    ∙ get_or-map ground_in before k d d.ground within in
    ap (λ (g : Ground). g.field) at ∙ over k d within

-- a change of the ground: to the new field where it comes, else the old one stays
pub over_changed : (new : Field) (states after : List BookState) (answer : KindsPublished) (k : ℕ) → AreKinds states
    → All (λ (state : BookState). answer ≡ publication_by (first_awaited states) state) states → answer ≡ Same k → after ≡ after_change new states
    → AreOver new after
over_changed new states after answer k kinds told is state =
    subst (AreOver new) (sym (state ∙ (same_to_all new states answer k kinds told is).all))
    (All-map (IsOver new) (over_field new) states (λ i d there. refl))

pub over_unchanged : (old new : Field) (states after : List BookState) (answer : KindsPublished) → AreOver old states
    → All (λ (state : BookState). answer ≡ publication_by (first_awaited states) state) states → ((k : ℕ) → answer ≡ Same k → ⊥)
    → after ≡ after_change new states → AreOver old after
over_unchanged old new states after answer over told never state =
    subst (AreOver old) (sym (state ∙ unchanged_ground new states answer told never)) over
