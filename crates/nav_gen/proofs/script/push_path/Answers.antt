use Rattle.std.proofs.Common.{rules}
use Rattle.nav_gen.proofs.script.push_path.Goals as goal

pub returns-clause-text : goal.returns-clause-text
returns-clause-text c = search rules
