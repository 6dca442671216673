use Rattle.std.proofs.Common.{false, refl}
use Rattle.std.proofs.lemmas.Bool.{both_ways}
use Rattle.nav_ground.proofs.CellRunLaws.{next_run_passed, no_run_passed, all_passed}
use Rattle.nav_ground.proofs.padded_cells.are_same_runs.Goals as goal

pub returns-in-None : goal.returns-in-None
returns-in-None c = (
  λ never. absurd (both_ways false refl never),
  λ same. absurd (no_run_passed c.args.cells.now c.args.runs.now c.args.others.now c.args.other_runs.now c.loop-run.spot c.loop-run.run-index _
      c.run_cells.result.now c.loop-run-test.true c.run_cells.ensures c.loop-run.invariant.passed c.in-None.ensures.passed same),
)

pub loop-run-preserved : goal.loop-run-preserved
loop-run-preserved c = record {
  left = c.in-Some.ensures.left;
  passed = next_run_passed c.args.cells.now c.args.runs.now c.args.others.now c.args.other_runs.now c.loop-run.spot c.in-Some.behind c.loop-run.run-index _
      c.run_cells.result.now c.loop-run-test.true c.run_cells.ensures c.loop-run.invariant.passed c.in-Some.ensures.passed;
}

pub returns : goal.returns
returns c =
    all_passed c.args.cells.now c.args.runs.now _ _ c.loop-run.run-index c.is_end.result c.loop-run-test.false c.loop-run.invariant.passed c.is_end.ensures
