use Rattle.std.proofs.Common.{ap, append_assoc, ◌++◌}
use Rattle.std.specs.List.{flat_map}
use Rattle.nav_record.specs.AnswerTexts.{link_text, turn_text, first_line_text}
use Rattle.nav_text.proofs.AppendLaws.{spelled, and_then, longer, handed}
use Rattle.nav_record.proofs.answer.append_path.Goals as goal

pub returns-in_err-append_first_line : goal.returns-in_err-append_first_line
returns-in_err-append_first_line c =
    let found = c.args.found.now in
    handed _ _ c.from_residual.ensures.0
    (longer (first_line_text c.args.k found) (flat_map link_text found.links ++ flat_map turn_text found.turns) c.in_err-append_first_line.ensures)

pub returns-in_err-append_links : goal.returns-in_err-append_links
returns-in_err-append_links c =
    let found = c.args.found.now in
    let first = first_line_text c.args.k found in
    let links = flat_map link_text found.links in
    let turns = flat_map turn_text found.turns in
    let linked = spelled _ links (ap (flat_map link_text) c.as_slice.ensures) c.in_err-append_links.ensures in
    handed _ _ c.from_residual-in_err-append_links.ensures.0
    (spelled _ _ (append_assoc first links turns) (longer (first ++ links) turns (and_then first links c.in_ok-append_first_line.ensures linked)))

pub returns : goal.returns
returns c =
    let found = c.args.found.now in
    let first = first_line_text c.args.k found in
    let links = flat_map link_text found.links in
    let turns = flat_map turn_text found.turns in
    let linked = spelled _ links (ap (flat_map link_text) c.as_slice.ensures) c.in_ok-append_links.ensures in
    let turned = spelled _ turns (ap (flat_map turn_text) c.as_slice-2.ensures) c.append_turns.ensures in
    spelled _ _ (append_assoc first links turns) (and_then (first ++ links) turns (and_then first links c.in_ok-append_first_line.ensures linked) turned)
