use Rattle.mesh_input.proofs.AxisLaws.{finer_length}
use Rattle.mesh_input.proofs.axis.axis.Goals as goal

pub invariant_of-result-clause-finer : goal.invariant_of-result-clause-finer
invariant_of-result-clause-finer c = finer_length c.args.size c.args.finer c.in_ok-step.step c.in_ok-fine.fine c.in_ok-step.ensures.found c.in_ok-fine.ensures.found
