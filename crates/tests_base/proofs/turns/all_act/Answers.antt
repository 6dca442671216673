use Rattle.std.proofs.Common.{rules}
use Rattle.tests_base.proofs.Passes.{all_in_order}
use Rattle.tests_base.proofs.turns.all_act.Goals as goal

pub returns : goal.returns
returns g c = search (rules, all_in_order)
