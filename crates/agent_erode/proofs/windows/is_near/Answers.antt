use Rattle.std.proofs.Common.{arith}
use Rattle.std.proofs.lemmas.Int.{to_z-of_z}
use Rattle.agent_erode.proofs.windows.is_near.Goals as goal

pub returns-then-is_between : goal.returns-then-is_between
returns-then-is_between c = grind (arith, to_z-of_z)

pub returns-else-is_between : goal.returns-else-is_between
returns-else-is_between c = grind (arith, to_z-of_z)
