use Rattle.nav_gen.proofs.FieldTexts.{text_written}
use Rattle.nav_gen.proofs.report.write_input.Goals as goal

pub returns : goal.returns
returns c =
    text_written _ _ _ _ _ _ c.args.number c.args.size c.in_ok-text.ensures.items c.new-draws.ensures c.in_ok-push_field.ensures.text
    c.in_ok-push_field.ensures.state c.in_ok-push_line.ensures c.in_ok-push_rounds.ensures
