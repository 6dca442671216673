use Rattle.std.proofs.Common.{ℕ, ◌++◌, ◌∷◌, [], ◌∙◌, List, length, ap, sym, subst, arith, length-drop}
use Rattle.std.specs.Prelude.{All}
use Rattle.std.proofs.lemmas.List.Elements.{All-push}
use Rattle.registry_format.specs.Reading.{rows_of}
use Rattle.registry_format.specs.Saved.{FitsParts}
use Rattle.registry_format.specs.declared.saved.SavedObstacle.{SavedObstacle}
use Rattle.registry_format.proofs.Loops.{rows_done, rows_read}
use Rattle.registry_format.proofs.reading.rows_in.Goals as goal

pub loop-preserved : goal.loop-preserved
loop-preserved c = (
  rows_read c.loop.rows.items c.push.new.self.items c.args.count c.loop.counter c.loop.rest.now c.split_at.result.1.now
      (rows_of c.args.count c.args.words.now) c.loop-test.true c.loop.invariant.0
      (c.in_ok-push.ensures.items ∙ ap (λ (row : SavedObstacle). c.loop.rows.items ++ row ∷ []) c.row_at.ensures.value) c.split_at.ensures.back,
  omega (arith, c.loop.invariant.1, c.loop-test.true, length-drop 21 c.loop.rest.now, ap (λ (ws : List ℕ). length ws) c.split_at.ensures.back),
  subst (All (λ (row : SavedObstacle). FitsParts row.shape)) (sym c.in_ok-push.ensures.items)
      (All-push (λ (row : SavedObstacle). FitsParts row.shape) c.loop.rows.items c.row_at.result c.loop.invariant.2 c.row_at.ensures.fits),
)

pub returns-clause-rows : goal.returns-clause-rows
returns-clause-rows c =
    rows_done c.loop.rows.items c.args.count c.loop.counter c.loop.rest.now (rows_of c.args.count c.args.words.now) (omega (arith, c.loop-test.false)) c.loop.invariant.0
