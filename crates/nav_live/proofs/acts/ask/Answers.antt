use Rattle.std.proofs.Common.{rules}
use Rattle.nav_live.proofs.acts.ask.Goals as goal

pub returns-in-Ok : goal.returns-in-Ok
returns-in-Ok c = search rules
