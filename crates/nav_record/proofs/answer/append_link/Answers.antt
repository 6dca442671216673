use Rattle.nav_record.proofs.answer.append_link.Goals as goal

pub returns : goal.returns
returns c = c.append_parts.ensures
