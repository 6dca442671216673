use Rattle.std.proofs.Common.{rules}
use Rattle.nav_gen.proofs.field.made_span.Goals as goal

pub returns : goal.returns
returns c = search rules
