-- What a level publishes next, and what its press shows then.
use Rattle.std.proofs.Common.{◌≡◌, ℕ, List, [], ◌∷◌, ◌++◌, length, drop, take, take-add, ◌-◌, ap, ◌∙◌, refl, sym, arith, Result, Ok, Err}
use Rattle.std.specs.Prelude.{slice_range, OnOk, OnErr}
use Rattle.std.proofs.lemmas.List.{length-take-le, take-append-le, take_all}
use Rattle.std.proofs.lemmas.List.Elements.{All-drop, All-same, All-take}
use Rattle.nav_ground.specs.declared.history.Entry.{Entry}
use Rattle.nav_ground.specs.declared.history.Ground.{Ground}
use Rattle.nav_ground.specs.declared.history.Request.{Request}
use Rattle.nav_ground.specs.History.{IsRequest, alive_after}
use Rattle.mesh_types.specs.declared.mesh.Mesh.{Mesh}
use Rattle.mesh_types.specs.Builds.{build_of}
use Rattle.mesh_types.specs.Soundness.{IsSound}
use Rattle.nav_version.specs.Pairs.{IsNext, PressView}
use Rattle.build_queue.specs.BookState.{BookState, IsBook}
use Rattle.build_queue.specs.Renewal.{AddsAgain, IsRenewed}
use Rattle.build_queue.proofs.Renewals.{only_adds}
use Rattle.build_queue.specs.Steps.{after_request, after_publish, next_reply}
use Rattle.nav_book.specs.LevelResults.{target_mesh}
use Rattle.nav_book.proofs.GroundTiles.{build_of_beginning}
use Rattle.nav_book.specs.Representation.{IsShown}
use Rattle.nav_book.specs.Results.{published_entries}

module _ (state : BookState) (press : PressView) (kept : IsShown state press) where
  -- a step that leaves the ground and what is published
  pub shown_step : (next new : BookState) → new ≡ next → IsBook new → next.ground ≡ state.ground → published_entries next ≡ published_entries state → IsShown new press
  shown_step next new is rules ground entries = record {
    rules = rules;
    level = kept.level ∙ sym (ap (λ (s : BookState). s.ground) is ∙ ground);
    entries = kept.entries ∙ sym (ap published_entries is ∙ entries);
  }

  pub shown_same : (new : BookState) → IsBook new → new.ground ≡ state.ground → new.history ≡ state.history → new.published ≡ state.published → IsShown new press
  shown_same new rules ground history published = record {
    rules = rules;
    level = kept.level ∙ sym ground;
    entries = kept.entries ∙ (λ i. take (sym published i) (sym history i));
  }

  -- one entry more shows nothing more
  entries_after_request : (lane : ℕ) (request : Request) → published_entries (after_request state lane request) ≡ published_entries state
  entries_after_request lane request =
      take-append-le state.published state.history (record { lane = lane; request = request; reply = next_reply state request } ∷ [])
      (omega (arith, kept.rules.aimed, kept.rules.shown))

  -- also where it may be refused with nothing changed
  pub shown_request : {A E : Type 0} (result : Result A E) (lane : ℕ) (request : Request) (new : BookState)
      → OnOk result (new ≡ after_request state lane request) → OnErr result (new ≡ state) → IsBook new → IsShown new press
  shown_request (Ok answer) lane request new taken refused rules =
      shown_step (after_request state lane request) new taken rules refl (entries_after_request lane request)
  shown_request (Err error) lane request new taken refused rules = shown_step state new refused rules refl refl

  -- the entries behind the published ones lead to the target
  module _ (more : List Entry) (between : more ≡ slice_range state.history state.published state.target) where
    target_entries : press.entries ++ more ≡ take state.target state.history
    target_entries =
        (λ i. kept.entries i ++ between i)
        ∙ sym (take-add state.published (state.target - state.published) state.history)
        ∙ ap (λ n. take n state.history) (omega (arith, kept.rules.shown))

    pub is_next : (mesh : Mesh) → mesh ≡ target_mesh state → IsSound mesh → IsNext press.ground press.entries more mesh
    is_next mesh is sound' = record {
      few = omega (
        arith,
        ap (λ (list : List Entry). length list) target_entries,
        length-take-le state.target state.history kept.rules.aimed,
        kept.rules.aimed,
        kept.rules.replied.few,
      );
      requests = All-same (λ (entry : Entry). IsRequest entry.request) more (slice_range state.history state.published state.target) between
          (All-take (λ (entry : Entry). IsRequest entry.request) (state.target - state.published) (drop state.published state.history)
          (All-drop (λ (entry : Entry). IsRequest entry.request) state.published state.history kept.rules.replied.requests));
      shows = is
          ∙ sym
          (ap (λ (w : Ground). build_of w (press.entries ++ more) (length (press.entries ++ more))) kept.level
          ∙ build_of_beginning state.ground state.history (press.entries ++ more) state.target kept.rules.aimed target_entries);
      sound = sound';
    }

    -- and once they are shown, the press shows what is published
    pub shown_next : (after : BookState) (other : PressView) → after ≡ after_publish state → after.published ≡ state.target → IsBook after
        → other ≡ record press { entries = press.entries ++ more } → IsShown after other
    shown_next after other step published rules is =
        let ground : after.ground ≡ state.ground = ap (λ (s : BookState). s.ground) step in
        let history : after.history ≡ state.history = ap (λ (s : BookState). s.history) step in
        record {
          rules = rules;
          level = ap (λ (p : PressView). p.ground) is ∙ kept.level ∙ sym ground;
          entries = ap (λ (p : PressView). p.entries) is ∙ target_entries ∙ (λ i. take (sym published i) (sym history i));
        }

-- a press that shows what the obstacles that are alive leave, once they were added again, shows the state once it is renewed
pub shown_renewed : (state new : BookState) (press : PressView) → press.ground ≡ state.ground
    → AddsAgain state.history (alive_after state.history (length state.history)) press.entries → IsRenewed state new → IsBook new → IsShown new press
shown_renewed state new press ground adds renewed rules = record {
  rules = rules;
  level = ground ∙ sym renewed.ground;
  entries = only_adds state.history (alive_after state.history (length state.history)) press.entries new.history adds renewed.history
      ∙ sym (take_all new.published new.history (omega (arith, renewed.published)));
}
