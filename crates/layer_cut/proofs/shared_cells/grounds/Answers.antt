use Rattle.std.proofs.Common.{List, ◌++◌, ◌∷◌, [], map, ap, ◌∙◌, sym, subst}
use Rattle.std.specs.Prelude.{All}
use Rattle.std.proofs.lemmas.List.{map_more, take_all}
use Rattle.std.proofs.lemmas.List.Elements.{All-nil, All-push}
use Rattle.nav_ground.specs.declared.history.Ground.{Ground}
use Rattle.nav_ground.specs.Grounds.{IsGround}
use Rattle.layer_cut.specs.declared.shared_cells.AgentCells.{AgentCells}
use Rattle.layer_cut.specs.SharedCells.{AreCellsOf}
use Rattle.layer_cut.proofs.SharedCells.{ground_by}
use Rattle.layer_cut.proofs.shared_cells.grounds.Goals as goal

pub loop-setting-init : goal.loop-setting-init
loop-setting-init c = record {
  value = c.in_ok-grounds.ensures.items;
  rules = subst (λ (list : List Ground). All IsGround list) (sym c.in_ok-grounds.ensures.items) (All-nil IsGround);
  made = subst (λ (list : List AgentCells). All (AreCellsOf c.args.field.now) list) (sym c.new-made.ensures.items) (All-nil (AreCellsOf c.args.field.now));
}

pub cells_for-requires-clause-made : goal.cells_for-requires-clause-made
cells_for-requires-clause-made c = c.loop-setting.invariant.made

pub loop-setting-preserved : goal.loop-setting-preserved
loop-setting-preserved c = record {
  value = c.in_ok-push.ensures.items
      ∙ (λ i. c.loop-setting.invariant.value i ++ c.in_ok-ground_over.ensures.value i ∷ [])
      ∙ sym (map_more (ground_by c.args.field.now) c.args.settings.now c.loop-setting.setting-index _ c.loop-setting-test.true);
  rules = subst (λ (list : List Ground). All IsGround list) (sym c.in_ok-push.ensures.items)
      (All-push IsGround c.loop-setting.grounds.items _ c.loop-setting.invariant.rules c.in_ok-ground_over.ensures.rules);
  made = c.in_ok-shared.ensures.made;
}

pub returns-clause-value : goal.returns-clause-value
returns-clause-value c =
    c.loop-setting.invariant.value
    ∙ ap (map (ground_by c.args.field.now)) (take_all c.loop-setting.setting-index c.args.settings.now c.loop-setting-test.false)

pub returns-clause-rules : goal.returns-clause-rules
returns-clause-rules c = c.loop-setting.invariant.rules
