use Rattle.std.proofs.Common.{ap, append_assoc, ◌++◌}
use Rattle.std.specs.List.{flat_map}
use Rattle.nav_record.specs.HopTexts.{hop_line_text, hop_step_text}
use Rattle.nav_record.specs.AnswerTexts.{turn_text}
use Rattle.nav_text.proofs.AppendLaws.{spelled, and_then, longer, handed}
use Rattle.nav_record.proofs.hops.append_found.Goals as goal

pub returns-in_err-append_hop_line : goal.returns-in_err-append_hop_line
returns-in_err-append_hop_line c =
    let found = c.args.found.now in
    handed _ _ c.from_residual.ensures.0
    (longer (hop_line_text c.args.k found) (flat_map hop_step_text found.steps ++ flat_map turn_text found.turns) c.in_err-append_hop_line.ensures)

pub returns-in_err-append_steps : goal.returns-in_err-append_steps
returns-in_err-append_steps c =
    let found = c.args.found.now in
    let first = hop_line_text c.args.k found in
    let steps = flat_map hop_step_text found.steps in
    let turns = flat_map turn_text found.turns in
    let stepped = spelled _ steps (ap (flat_map hop_step_text) c.as_slice.ensures) c.in_err-append_steps.ensures in
    handed _ _ c.from_residual-in_err-append_steps.ensures.0
    (spelled _ _ (append_assoc first steps turns) (longer (first ++ steps) turns (and_then first steps c.in_ok-append_hop_line.ensures stepped)))

pub returns : goal.returns
returns c =
    let found = c.args.found.now in
    let first = hop_line_text c.args.k found in
    let steps = flat_map hop_step_text found.steps in
    let turns = flat_map turn_text found.turns in
    let stepped = spelled _ steps (ap (flat_map hop_step_text) c.as_slice.ensures) c.in_ok-append_steps.ensures in
    let turned = spelled _ turns (ap (flat_map turn_text) c.as_slice-2.ensures) c.append_turns.ensures in
    spelled _ _ (append_assoc first steps turns) (and_then (first ++ steps) turns (and_then first steps c.in_ok-append_hop_line.ensures stepped) turned)
