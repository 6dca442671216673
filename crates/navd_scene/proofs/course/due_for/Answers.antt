use Rattle.std.proofs.Common.{ap, ◌∙◌, Err, subst}
use Rattle.top_call.proofs.AnswerLaws.{no_fault}
use Rattle.top_call.proofs.InputLaws.{runnable_of}
use Rattle.navd_scene.specs.Drawn.{IsLineOf}
use Rattle.navd_scene.proofs.Ends.{line_right}
use Rattle.navd_scene.proofs.course.due_for.Goals as goal

pub returns-in-Err-Fault-clause-right : goal.returns-in-Err-Fault-clause-right
returns-in-Err-Fault-clause-right g c =
    line_right _ _ _ (c.read_input.ensures.fault _ (c.in-Err-Fault.is ∙ ap (λ r. Err r) c.in-Err-Fault.field-0-is))
    (subst (λ f. IsLineOf f c.told.result) c.in-Err-Fault.fault-is c.told.ensures)

pub returns-in-Err-Fault-clause-complete : goal.returns-in-Err-Fault-clause-complete
returns-in-Err-Fault-clause-complete g c input =
    absurd (no_fault _ _ _ _ c.read_input.ensures.only (c.in-Err-Fault.is ∙ ap (λ r. Err r) c.in-Err-Fault.field-0-is) input)

pub drawn-requires : goal.drawn-requires
drawn-requires g c = record { runnable = runnable_of _ _ _ _ _ c.in-Ok.ensures.found }
