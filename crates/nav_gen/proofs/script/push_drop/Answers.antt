use Rattle.std.proofs.Common.{rules}
use Rattle.nav_gen.proofs.script.push_drop.Goals as goal

pub returns : goal.returns
returns c = search rules
