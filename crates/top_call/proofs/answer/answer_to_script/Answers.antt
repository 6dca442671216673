use Rattle.std.proofs.Common.{ap, ◌∙◌, Err, inr, subst}
use Rattle.top_call.specs.Answers.{IsLineOf}
use Rattle.top_call.proofs.AnswerLaws.{line_right, no_fault}
use Rattle.top_call.proofs.InputLaws.{runnable_of}
use Rattle.top_call.proofs.answer.answer_to_script.Goals as goal

pub returns-in-Err-Fault-clause-right : goal.returns-in-Err-Fault-clause-right
returns-in-Err-Fault-clause-right g c =
    line_right _ _ _ _ (c.read_whole.ensures.fault _ (c.in-Err-Fault.is ∙ ap (λ r. Err r) c.in-Err-Fault.field-0-is))
    (subst (λ f. IsLineOf f c.fault_text.result) c.in-Err-Fault.fault-is c.fault_text.ensures)

pub returns-in-Err-Fault-clause-complete : goal.returns-in-Err-Fault-clause-complete
returns-in-Err-Fault-clause-complete g c input =
    absurd (no_fault _ _ _ _ c.read_whole.ensures.only (c.in-Err-Fault.is ∙ ap (λ r. Err r) c.in-Err-Fault.field-0-is) input)

pub text_of-requires-clause-runnable : goal.text_of-requires-clause-runnable
text_of-requires-clause-runnable g c lifetimes within = runnable_of _ _ _ _ _ c.in-Ok.ensures.found

pub returns-in-Ok-text_of-clause-right : goal.returns-in-Ok-text_of-clause-right
returns-in-Ok-text_of-clause-right g c = record {
  fits = record { setting = c.in-Ok.input.setting; field = c.in-Ok.input.field; script = c.in-Ok.input.script; there = c.in-Ok.ensures.found };
  written = c.in-Ok-text_of.ensures.text;
}

pub returns-in-Ok-text_of-clause-steps : goal.returns-in-Ok-text_of-clause-steps
returns-in-Ok-text_of-clause-steps g c = inr (record {
  fits = record { setting = c.in-Ok.input.setting; field = c.in-Ok.input.field; script = c.in-Ok.input.script; there = c.in-Ok.ensures.found };
  steps = c.text_of.ensures.most;
})

pub returns-in-Err-clause-steps : goal.returns-in-Err-clause-steps
returns-in-Err-clause-steps g c = inr (record {
  fits = record { setting = c.in-Ok.input.setting; field = c.in-Ok.input.field; script = c.in-Ok.input.script; there = c.in-Ok.ensures.found };
  steps = c.text_of.ensures.most;
})
