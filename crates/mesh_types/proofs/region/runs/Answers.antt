use Rattle.std.proofs.Common.{◌∙◌, get_or}
use Rattle.std.specs.Prelude.{None}
use Rattle.std.proofs.lemmas.Result.{IfOk-from_err}
use Rattle.mesh_types.specs.Runs.{run_with}
use Rattle.mesh_types.proofs.Labels.{one_more_place}
use Rattle.mesh_types.proofs.region.runs.Goals as goal

pub loop-place-preserved : goal.loop-place-preserved
loop-place-preserved c =
    c.in_ok-push_some.ensures
    ∙ one_more_place (λ place. run_with c.args.labels.now place (get_or c.args.labels.now place None)) c.loop-place.place c.loop-place.runs.items
    c.run_from.result c.run_from.ensures c.loop-place.invariant

pub returns-in_err-push_some : goal.returns-in_err-push_some
returns-in_err-push_some c = IfOk-from_err c.from_residual.result _ c.from_residual.ensures.0
