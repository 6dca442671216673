use Rattle.std.proofs.Common.{[], ◌∙◌, refl, subst, arith, take_all}
use Rattle.nav_live.specs.Stops.{IsStopped}
use Rattle.nav_live.specs.LaneSteps.{HasRunAll}
use Rattle.nav_live.proofs.LaneLaws.{handed_on, is_stopped, one_line_more}
use Rattle.nav_live.proofs.lane.Lane.run_lines.Goals as goal

pub loop-line-init : goal.loop-line-init
loop-line-init g c = record { so_far = record { spoken = []; keeps = c.requires.keeps; each = refl }; named = refl }

pub loop-line-preserved : goal.loop-line-preserved
loop-line-preserved g c = record {
  so_far =
      one_line_more c.args.context.now.lock.now _ c.args.list.now c.loop-line.line-index _ c.loop-line.self c.run.new.self c.loop-line-test.true refl c.loop-line.invariant.so_far
      c.in_ok-run.ensures.ran;
  named = c.run.ensures.named ∙ c.loop-line.invariant.named;
}

pub returns-clause-ran : goal.returns-clause-ran
returns-clause-ran g c =
    subst (λ lines. HasRunAll c.args.context.now.lock.now lines c.loop-line.self) (take_all c.loop-line.line-index c.args.list.now (omega (arith, c.loop-line-test.false)))
    c.loop-line.invariant.so_far

pub returns-in_err-run-clause-full : goal.returns-in_err-run-clause-full
returns-in_err-run-clause-full g c =
    let stopped =
    is_stopped c.args.context.now.lock.now c.args.list.now c.loop-line.line-index _ _ c.loop-line.self c.run.new.self.pass c.in_err-run.field-0.0 c.loop-line-test.true refl
    c.loop-line.invariant.so_far c.in_err-run.ensures.full in
    handed_on (IsStopped c.args.list.now c.run.new.self.pass) c.from_residual.result c.in_err-run.field-0.0 c.from_residual.ensures.1 stopped
