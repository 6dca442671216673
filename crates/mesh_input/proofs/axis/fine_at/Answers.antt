use Rattle.std.proofs.Common.{refl}
use Rattle.mesh_input.proofs.AxisLaws.{fine_far, fine_found, fine_none}
use Rattle.mesh_input.proofs.axis.fine_at.Goals as goal

pub returns-in_err-steps-clause-none : goal.returns-in_err-steps-clause-none
returns-in_err-steps-clause-none c _ = fine_far c.args.x c.args.axis (c.in_err-steps.ensures.none refl)

pub returns-clause-found : goal.returns-clause-found
returns-clause-found c =
    let steps = c.in_ok-steps in
    fine_found c.args.x c.args.axis steps.steps steps.ensures.few c.fine_behind.result steps.ensures.found c.fine_behind.ensures.found

pub returns-clause-none : goal.returns-clause-none
returns-clause-none c =
    let steps = c.in_ok-steps in
    fine_none c.args.x c.args.axis steps.steps steps.ensures.few c.fine_behind.result steps.ensures.found c.fine_behind.ensures.none
