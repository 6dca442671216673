use Rattle.std.proofs.Common.{◌∙◌, sym, get_or, arith}
use Rattle.std.proofs.lemmas.Bool.{false_from_ne_true}
use Rattle.nav_ground.specs.declared.field.Span.{Span}
use Rattle.nav_ground.specs.Tiling.{is_in_window, widened}
use Rattle.agent_erode.proofs.WindowLaws.{none_before, none_after}
use Rattle.layer_cut.proofs.neighbours.spans_near.Goals as goal

pub loop-i-init : goal.loop-i-init
loop-i-init c =
    let inside = λ (span : Span). is_in_window (widened c.args.window c.args.margin) span.x span.z in
    c.new-near.ensures.items ∙ sym (none_before inside c.args.spans.now c.spans_before-i.result (λ k d small there.
    false_from_ne_true (inside (get_or c.args.spans.now k d)) (λ h.
    let rows = c.rows_of-rows.ensures.all _ _ (c.requires.rows k d there) h in
    let before = c.spans_before-i.ensures.before k d small in
    omega (arith, rows.0, before))))

pub bounds-spans-i : goal.bounds-spans-i
bounds-spans-i c = omega (arith, c.spans_before-i-end.ensures.most, c.loop-i-test.true)

pub returns : goal.returns
returns c =
    let inside = λ (span : Span). is_in_window (widened c.args.window c.args.margin) span.x span.z in
    c.loop-i.invariant ∙ none_after inside c.args.spans.now c.loop-i.i (λ k d large there.
    false_from_ne_true (inside (get_or c.args.spans.now k d)) (λ h.
    let rows = c.rows_of-rows.ensures.all _ _ (c.requires.rows k d there) h in
    let after = c.spans_before-i-end.ensures.after k d (omega (arith, large, c.loop-i-test.false)) there in
    omega (arith, rows.1, after)))
