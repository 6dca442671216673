use Rattle.nav_gen.proofs.FieldTexts.{field_written}
use Rattle.nav_gen.proofs.field.push_field.Goals as goal

pub returns-clause-text : goal.returns-clause-text
returns-clause-text c =
    field_written _ _ _ _ _ c.args.draws.now c.args.size c.in_ok-push_header.ensures c.in_ok-push_spans.ensures.text c.extend_from_slice.ensures.items
