use Rattle.std.proofs.Common.{rules}
use Rattle.ear_cut.proofs.ear.is_not_right.Goals as goal

pub returns : goal.returns
returns c = search rules
