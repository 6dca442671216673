use Rattle.std.proofs.Common.{◌+◌, ◌<◌, ◌∙◌, ap, length, arith}
use Rattle.std.specs.List.{flat_map}
use Rattle.mesh_types.specs.Simplified.{left_of_run}
use Rattle.contour_simplify.proofs.Outlines.{runs_more, runs_all}
use Rattle.contour_simplify.proofs.kept.kept_corners.Goals as goal

pub loop-run-preserved : goal.loop-run-preserved
loop-run-preserved c =
    let there : c.loop-run.run + 1 < length c.args.kept_round.now = omega (arith, c.loop-run-test.true) in
    runs_more (left_of_run c.args.error c.args.round.now) c.args.kept_round.now c.loop-run.run c.loop-run.corners.items c.push_run.new.corners.items there
    c.loop-run.invariant c.in_ok-push_run.ensures

pub returns : goal.returns
returns c =
    c.loop-run.invariant
    ∙ ap (flat_map (left_of_run c.args.error c.args.round.now)) (runs_all c.args.kept_round.now c.loop-run.run c.loop-run-test.false)
