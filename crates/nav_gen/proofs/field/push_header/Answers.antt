use Rattle.nav_gen.proofs.FieldTexts.{header_written}
use Rattle.nav_gen.proofs.field.push_header.Goals as goal

pub returns : goal.returns
returns c =
    header_written _ _ _ _ _ c.args.size c.in_ok-extend_from_slice.ensures.items c.in_ok-push_line.ensures c.extend_from_slice-2.ensures.items
