-- Runs: who is held and apart is so after each step over the same mesh.
use Rattle.std.proofs.Common.{◌≡◌, ℕ, ◌-◌, ◌<◌, ◌≤◌, Bool, true, false, List, [], ◌∷◌, length, get_or, sym, subst, ap, ◌∙◌, inl, inr, arith}
use Rattle.std.specs.Prelude.{max, slice_get, Some}
use Rattle.std.proofs.lemmas.Option.{slice_get_within, slice_get-get_or, same_Some}
use Rattle.nav_base.specs.declared.point.Point.{Point}
use Rattle.mesh_types.specs.declared.mesh.Mesh.{Mesh}
use Rattle.mesh_types.specs.Soundness.{IsSound}
use Rattle.mesh_types.proofs.MeshPolygons.{placed}
use Rattle.fine_walk.specs.Laws.{AreEndsHeld, DoWaysStay}
use Rattle.crowd_moves.specs.declared.agents.CrowdAgent.{CrowdAgent}
use Rattle.crowd_moves.specs.declared.agents.CrowdMove.{CrowdMove}
use Rattle.crowd_moves.specs.Pairs.{is_apart}
use Rattle.crowd_moves.proofs.StepLaws.{no_agent, no_move}
use Rattle.crowd_filter.specs.CrowdAgents.{IsCrowdAgent}
use Rattle.crowd_filter.specs.CrowdSteps.{moved, IsCrowdStep}
use Rattle.crowd_filter.specs.Placing.{Fits}
use Rattle.crowd_filter.specs.Runs.{AreHeldApart, DoHeldStay, DoRunsKeep, IsRun, StepWishes}
use Rattle.crowd_filter.proofs.MovedLaws.{moved_walks, step_apart, walks_right}
use Rattle.crowd_filter.proofs.SpaceLaws.{high_there, low_there}

-- its own polygon fits an agent that is held
own_fits : (mesh : Mesh) (a : CrowdAgent) → IsSound mesh → IsCrowdAgent mesh a → a.stranded ≡ false → Fits mesh a a.polygon
own_fits mesh a sound agent walks =
    let held = agent.held walks in
    record {
      polygon = held.polygon;
      there = held.there;
      holds = held.holds;
      near = none held.polygon.low held.polygon.high a.low a.high mesh.setting.agent.climb held.low held.high (placed mesh a.polygon held.polygon sound held.there).rules.floors;
    }
  where
    none : (l h l' h' climb : ℕ) → l' ≡ l → h' ≡ h → l ≤ h → max (l - h') (l' - h) ≤ climb
    none l h l' h' climb e f up = omega (arith, e, f, up)

pub held_stay : DoHeldStay
held_stay mesh a b sound agent walks (inl kept) =
    let held = agent.held walks in
    kept.placed ∙ (λ i. record a {
      low = (low_there mesh a.polygon held.polygon held.there ∙ sym held.low) i;
      high = (high_there mesh a.polygon held.polygon held.there ∙ sym held.high) i;
      stranded = sym walks i;
    })
held_stay mesh a b sound agent walks (inr (inl over)) = absurd (over.left (own_fits mesh a sound agent walks))
held_stay mesh a b sound agent walks (inr (inr stranded)) = absurd (stranded.left (own_fits mesh a sound agent walks))

module _ (stay : DoWaysStay) (ends : AreEndsHeld) (mesh : Mesh) (sound : IsSound mesh) where
  -- an agent after a step, with what it was and did
  record IsMade (placed : List CrowdAgent) (moves : List CrowdMove) (i : ℕ) (x : CrowdAgent) : Type 0 where
    pub agent : CrowdAgent
    pub made : CrowdMove
    pub is_agent : slice_get placed i ≡ Some agent
    pub is_made : slice_get moves i ≡ Some made
    pub moved_so : x ≡ moved mesh agent made

  module _ (order first : List ℕ) (vectors : List Point) (before after : List CrowdAgent) (settles : Bool) (keeps : AreHeldApart mesh before)
      (step : IsCrowdStep mesh order first vectors before after settles) where
    made_so : (i : ℕ) (x : CrowdAgent) → slice_get after i ≡ Some x → IsMade step.placed step.moves i x
    made_so i x is =
        let inside : i < length step.placed = omega (arith, slice_get_within after i x is, step.made.one_each) in
        let a = slice_get-get_or step.placed i no_agent inside in
        let m = slice_get-get_or step.moves i no_move (omega (arith, inside, step.granted.right.one_each)) in
        record {
          agent = get_or step.placed i no_agent;
          made = get_or step.moves i no_move;
          is_agent = a;
          is_made = m;
          moved_so = same_Some x (moved mesh (get_or step.placed i no_agent) (get_or step.moves i no_move))
              (sym is ∙ step.made.each i (get_or step.placed i no_agent) (get_or step.moves i no_move) a m);
        }

    -- each is placed where it was
    as_before : (i : ℕ) (b : CrowdAgent) → slice_get step.placed i ≡ Some b → slice_get before i ≡ Some b
    as_before i b is_b =
        let is_a = slice_get-get_or before i no_agent (omega (arith, slice_get_within step.placed i b is_b, step.places.one_each)) in
        let a = get_or before i no_agent in
        is_a ∙ ap Some (sym (held_stay mesh a b sound (keeps.held i a is_a) (keeps.walk i a is_a) (step.places.each i a b is_a is_b)))

    walks_still : (a : CrowdAgent) (m : CrowdMove) → a.stranded ≡ false → (moved mesh a m).stranded ≡ false
    walks_still a m walks = ap (λ (x : CrowdAgent). x.stranded) (moved_walks mesh a m walks) ∙ walks

    pub step_keeps : AreHeldApart mesh after
    step_keeps = record {
      held = λ i x is.
          let so = made_so i x is in
          subst (IsCrowdAgent mesh) (sym so.moved_so)
          (walks_right stay ends mesh order first vectors before after settles sound step i so.agent so.made so.is_agent so.is_made).after;
      walk = λ i x is.
          let so = made_so i x is in
          ap (λ (y : CrowdAgent). y.stranded) so.moved_so ∙ walks_still so.agent so.made (keeps.walk i so.agent (as_before i so.agent so.is_agent));
      apart = λ i j x y other is_x is_y.
          let so = made_so i x is_x in
          let so' = made_so j y is_y in
          let now = (step_apart mesh order first vectors before after settles step i j so.agent so'.agent so.made so'.made
          (record { others = other; first = so.is_agent; second = so'.is_agent; first_move = so.is_made; second_move = so'.is_made })
          (keeps.apart i j so.agent so'.agent other (as_before i so.agent so.is_agent) (as_before j so'.agent so'.is_agent))).after in
          subst (λ (a : CrowdAgent). is_apart mesh.setting.agent.height a y ≡ true) (sym so.moved_so)
          (subst (λ (b : CrowdAgent). is_apart mesh.setting.agent.height (moved mesh so.agent so.made) b ≡ true) (sym so'.moved_so) now);
    }

  run_keeps : (before after : List CrowdAgent) (wishes : List StepWishes) → AreHeldApart mesh before → IsRun mesh before wishes after → AreHeldApart mesh after
  run_keeps before after [] keeps run = subst (AreHeldApart mesh) (sym run) keeps
  run_keeps before after (wish ∷ wishes) keeps run =
      run_keeps run.0 after wishes (step_keeps wish.order wish.first wish.vectors before run.0 run.1 keeps run.2) run.3

pub runs_keep : DoWaysStay → AreEndsHeld → DoRunsKeep
runs_keep stay ends mesh before after wishes sound keeps run = run_keeps stay ends mesh sound before after wishes keeps run
