use Rattle.std.proofs.Common.{ap, ◌+◌, [], take, drop}
use Rattle.std.specs.List.{flat_map}
use Rattle.std.proofs.lemmas.List.{take_all}
use Rattle.nav_record.specs.HopTexts.{hop_step_text}
use Rattle.nav_text.proofs.AppendLaws.{nothing, spelled, and_then, longer, handed, one_more, and_rest}
use Rattle.nav_record.proofs.hops.append_steps.Goals as goal

pub loop-step-init : goal.loop-step-init
loop-step-init c = nothing _ tt

pub loop-step-preserved : goal.loop-step-preserved
loop-step-preserved c =
    let i = c.loop-step.step-index in
    spelled _ _ (one_more hop_step_text [] c.args.steps.now i _ c.loop-step-test.true)
    (and_then (flat_map hop_step_text (take i c.args.steps.now)) _ c.loop-step.invariant c.in_ok-append_hop_step.ensures)

pub returns-in_err-append_hop_step : goal.returns-in_err-append_hop_step
returns-in_err-append_hop_step c =
    let i = c.loop-step.step-index in
    let so_far = flat_map hop_step_text (take i c.args.steps.now) in
    handed _ _ c.from_residual.ensures.0
    (spelled _ _ (and_rest hop_step_text [] c.args.steps.now i _ c.loop-step-test.true)
    (longer _ (flat_map hop_step_text (drop (i + 1) c.args.steps.now)) (and_then so_far _ c.loop-step.invariant c.in_err-append_hop_step.ensures)))

pub returns : goal.returns
returns c = spelled _ _ (ap (flat_map hop_step_text) (take_all c.loop-step.step-index c.args.steps.now c.loop-step-test.false)) c.loop-step.invariant
