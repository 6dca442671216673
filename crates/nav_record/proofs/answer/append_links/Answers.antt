use Rattle.std.proofs.Common.{ap, ◌+◌, [], take, drop}
use Rattle.std.specs.List.{flat_map}
use Rattle.std.proofs.lemmas.List.{take_all}
use Rattle.nav_record.specs.AnswerTexts.{link_text}
use Rattle.nav_text.proofs.AppendLaws.{nothing, spelled, and_then, longer, handed, one_more, and_rest}
use Rattle.nav_record.proofs.answer.append_links.Goals as goal

pub loop-link-init : goal.loop-link-init
loop-link-init c = nothing _ tt

pub loop-link-preserved : goal.loop-link-preserved
loop-link-preserved c =
    let i = c.loop-link.link-index in
    spelled _ _ (one_more link_text [] c.args.links.now i _ c.loop-link-test.true)
    (and_then (flat_map link_text (take i c.args.links.now)) _ c.loop-link.invariant c.in_ok-append_link.ensures)

pub returns-in_err-append_link : goal.returns-in_err-append_link
returns-in_err-append_link c =
    let i = c.loop-link.link-index in
    let so_far = flat_map link_text (take i c.args.links.now) in
    handed _ _ c.from_residual.ensures.0
    (spelled _ _ (and_rest link_text [] c.args.links.now i _ c.loop-link-test.true)
    (longer _ (flat_map link_text (drop (i + 1) c.args.links.now)) (and_then so_far _ c.loop-link.invariant c.in_err-append_link.ensures)))

pub returns : goal.returns
returns c = spelled _ _ (ap (flat_map link_text) (take_all c.loop-link.link-index c.args.links.now c.loop-link-test.false)) c.loop-link.invariant
