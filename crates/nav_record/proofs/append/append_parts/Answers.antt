use Rattle.nav_record.specs.Appending.{fields_text}
use Rattle.nav_text.proofs.AppendLaws.{extended, and_then, longer, handed}
use Rattle.nav_record.proofs.append.append_parts.Goals as goal

pub returns-in_err-append_fields : goal.returns-in_err-append_fields
returns-in_err-append_fields c =
    handed _ _ c.from_residual.ensures.0 (longer (fields_text c.args.word.now c.args.fields.now) c.args.end.now c.in_err-append_fields.ensures)

pub returns : goal.returns
returns c =
    let taken = c.extend_from_slice.ensures in
    and_then (fields_text c.args.word.now c.args.fields.now) c.args.end.now c.in_ok-append_fields.ensures
    (extended _ _ _ c.args.end.now taken.items taken.capacity taken.succeeds)
