use Rattle.kinds_handle.proofs.FirstKinds.{step_few}
use Rattle.kinds_handle.proofs.steps.step.Goals as goal

-- it is one of the kinds
pub kind_told-requires : goal.kind_told-requires
kind_told-requires g c =
    step_few c.args.held.now c.step.new.self _ c.in-Ok-Some.found c.in-Ok-Some.built c.in-Ok-Some.ensures.found c.in-Ok-Some.field-0-is
    c.in-Ok-Some.ensures.state c.in-Ok-Some.ensures.rules
