use Rattle.nav_gen.proofs.TextLaws.{count_lines}
use Rattle.nav_gen.proofs.report.line_count.Goals as goal

pub returns : goal.returns
returns c = λ number. count_lines number c.args.size c.requires
