use Rattle.std.proofs.Common.{rules}
use Rattle.ear_cut.proofs.ear.runs_counterclockwise.Goals as goal

pub returns : goal.returns
returns c = search rules
