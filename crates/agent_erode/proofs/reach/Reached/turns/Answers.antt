use Rattle.std.proofs.Common.{rules}
use Rattle.agent_erode.proofs.reach.Reached.turns.Goals as goal

pub returns : goal.returns
returns c = search rules
