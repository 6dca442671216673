use Rattle.std.proofs.Common.{length, ap, sym, ◌∙◌}
use Rattle.std.proofs.lemmas.Result.{IfOk-weaker}
use Rattle.top_call.proofs.MadeLaws.{summary_of, steps_of}
use Rattle.top_call.proofs.made.summarize.Goals as goal

pub returns-in_err-totals-clause-steps : goal.returns-in_err-totals-clause-steps
returns-in_err-totals-clause-steps g c =
    steps_of _ _ _ _ _ _ _ _ c.make.ensures.input (c.as_slice.ensures.value ∙ c.in_ok-text.ensures.text) c.in_ok-setting.ensures.only
    c.play.ensures.most

pub returns-clause-summary : goal.returns-clause-summary
returns-clause-summary g c =
    IfOk-weaker c.summary.result _ _ (λ text spelled. summary_of _ _ _ _ _ _ _ _ _ _ c.make.ensures.input
    (c.as_slice.ensures.value ∙ c.in_ok-text.ensures.text) c.in_ok-setting.ensures.only (c.in_ok-totals.ensures.totals, c.in_ok-totals.ensures.only)
    (c.len.ensures ∙ (sym c.as_slice.ensures.len ∙ ap (λ xs. length xs) (c.as_slice.ensures.value ∙ c.in_ok-text.ensures.text))) (c.line_count.ensures c.args.number) spelled) c.summary.ensures

pub returns-clause-steps : goal.returns-clause-steps
returns-clause-steps g c =
    steps_of _ _ _ _ _ _ _ _ c.make.ensures.input (c.as_slice.ensures.value ∙ c.in_ok-text.ensures.text) c.in_ok-setting.ensures.only
    c.play.ensures.most
