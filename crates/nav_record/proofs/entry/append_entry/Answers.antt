use Rattle.std.proofs.Common.{◌++◌, codes, decimal}
use Rattle.nav_record.specs.EntryTexts.{outcome_text, request_spelling}
use Rattle.nav_text.proofs.AppendLaws.{and_then, longer, handed}
use Rattle.nav_record.proofs.entry.append_entry.Goals as goal

pub returns-in_err-append_parts : goal.returns-in_err-append_parts
returns-in_err-append_parts c =
    let entry = c.args.entry.now in
    let front = codes "entry " ++ decimal c.args.number ++ codes " " ++ decimal entry.lane ++ codes " " in
    handed _ _ c.from_residual.ensures.0 (longer (front ++ request_spelling entry.request) (outcome_text entry.reply) (longer front (request_spelling entry.request) c.in_err-append_parts.ensures))

pub returns-in_err-append_request : goal.returns-in_err-append_request
returns-in_err-append_request c =
    let entry = c.args.entry.now in
    let front = codes "entry " ++ decimal c.args.number ++ codes " " ++ decimal entry.lane ++ codes " " in
    handed _ _ c.from_residual-in_err-append_request.ensures.0
    (longer (front ++ request_spelling entry.request) (outcome_text entry.reply) (and_then front (request_spelling entry.request) c.in_ok-append_parts.ensures c.in_err-append_request.ensures))

pub returns : goal.returns
returns c =
    let entry = c.args.entry.now in
    let front = codes "entry " ++ decimal c.args.number ++ codes " " ++ decimal entry.lane ++ codes " " in
    and_then (front ++ request_spelling entry.request) (outcome_text entry.reply)
    (and_then front (request_spelling entry.request) c.in_ok-append_parts.ensures c.in_ok-append_request.ensures) c.append_outcome.ensures
