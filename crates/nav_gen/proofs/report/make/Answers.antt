use Rattle.nav_gen.proofs.TextLaws.{made_input, made_short}
use Rattle.nav_gen.proofs.report.make.Goals as goal

pub returns-clause-input : goal.returns-clause-input
returns-clause-input c = made_input c.args.number c.args.size c.requires

pub returns-clause-short : goal.returns-clause-short
returns-clause-short c = made_short c.args.number c.args.size c.requires
