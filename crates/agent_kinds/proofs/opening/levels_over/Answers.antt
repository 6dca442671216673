use Rattle.std.proofs.Common.{List, map, ap, ◌∙◌, sym, subst}
use Rattle.std.specs.Prelude.{All}
use Rattle.std.specs.Vec.Iter.{into_iter_items}
use Rattle.std.proofs.lemmas.List.{nil_from_length}
use Rattle.std.proofs.lemmas.List.Elements.{All-head, All-tail, All-push}
use Rattle.nav_ground.specs.Grounds.{IsGround}
use Rattle.build_queue.specs.BookState.{BookState, IsBook, first_state}
use Rattle.agent_kinds.specs.Kinds.{AreKinds}
use Rattle.agent_kinds.proofs.Opened.{opened_kinds, one_opened, all_opened, opened_over}
use Rattle.agent_kinds.proofs.opening.levels_over.Goals as goal

pub level_of-requires : goal.level_of-requires
level_of-requires g c = All-head IsGround _ _ (subst (All IsGround) c.in-Some.ensures.steps.0 c.loop-ground.invariant.rest)

pub loop-ground-preserved : goal.loop-ground-preserved
loop-ground-preserved g c = record {
  made = one_opened c.args.grounds.items c.loop-ground.levels.items _ (into_iter_items c.loop-ground.ground-iterator) _ c.in-Some.ground _ c.in_ok-push.ensures.items
      c.in_ok-level_of.ensures.state c.in-Some.ensures.steps.0 c.loop-ground.invariant.made;
  rules = subst (λ (list : List BookState). All IsBook list) (sym c.in_ok-push.ensures.items)
      (All-push IsBook c.loop-ground.levels.items _ c.loop-ground.invariant.rules c.in_ok-level_of.ensures.rules);
  rest = All-tail IsGround _ _ (subst (All IsGround) c.in-Some.ensures.steps.0 c.loop-ground.invariant.rest);
}

pub returns-clause-state : goal.returns-clause-state
returns-clause-state g c =
    all_opened c.args.grounds.items c.loop-ground.levels.items (into_iter_items c.loop-ground.ground-iterator)
    (nil_from_length c.loop-ground.ground-iterator.rest.items (sym c.loop-ground.ground-iterator.rest.ok.0 ∙ c.in-None.ensures.steps.0)) c.loop-ground.invariant.made
    ∙ ap (map first_state) c.requires.grounds
    ∙ opened_over c.args.settings.now c.args.field.now

pub returns-clause-rules : goal.returns-clause-rules
returns-clause-rules g c =
    let is = returns-clause-state g c in
    subst (λ (list : List BookState). AreKinds list) (sym {A = List BookState} is)
    (opened_kinds c.args.settings.now c.args.field.now c.requires.settings (subst (λ (list : List BookState). All IsBook list) is c.loop-ground.invariant.rules))
