use Rattle.mesh_input.proofs.AxisLaws.{number_found}
use Rattle.mesh_input.proofs.axis.number_at.Goals as goal

pub returns-clause-found : goal.returns-clause-found
returns-clause-found c = number_found c.args.x c.args.axis c.args.fine c.requires.fine c.requires.inside c.requires.near c.if-fine-eq0.false
