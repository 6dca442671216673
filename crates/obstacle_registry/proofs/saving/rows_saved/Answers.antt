use Rattle.std.proofs.Common.{◌++◌, ◌∷◌, [], ◌∙◌, map, ap, sym, subst}
use Rattle.std.specs.Prelude.{All}
use Rattle.std.proofs.lemmas.List.{map_more, take_all}
use Rattle.std.proofs.lemmas.List.Elements.{All-push}
use Rattle.registry_format.specs.Saved.{FitsParts}
use Rattle.registry_format.specs.declared.saved.SavedObstacle.{SavedObstacle}
use Rattle.obstacle_registry.specs.Saving.{row_saved}
use Rattle.obstacle_registry.proofs.saving.rows_saved.Goals as goal

pub loop-row-preserved : goal.loop-row-preserved
loop-row-preserved c = record {
  rows = c.in_ok-push.ensures.items
      ∙ (λ i. c.loop-row.invariant.rows i ++ c.row_saved.ensures.value i ∷ [])
      ∙ sym (map_more row_saved c.args.rows.now c.loop-row.row-index _ c.loop-row-test.true);
  fits = subst (All (λ (row : SavedObstacle). FitsParts row.shape)) (sym c.in_ok-push.ensures.items)
      (All-push (λ (row : SavedObstacle). FitsParts row.shape) c.loop-row.saved.items c.row_saved.result c.loop-row.invariant.fits c.row_saved.ensures.fits);
}

pub returns-clause-rows : goal.returns-clause-rows
returns-clause-rows c = c.loop-row.invariant.rows ∙ ap (map row_saved) (take_all c.loop-row.row-index c.args.rows.now c.loop-row-test.false)

pub returns-clause-fits : goal.returns-clause-fits
returns-clause-fits c =
    subst (All (λ (row : SavedObstacle). FitsParts row.shape))
    (c.loop-row.invariant.rows ∙ ap (map row_saved) (take_all c.loop-row.row-index c.args.rows.now c.loop-row-test.false)) c.loop-row.invariant.fits
