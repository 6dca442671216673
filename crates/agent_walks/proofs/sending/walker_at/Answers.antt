use Rattle.std.proofs.Common.{subst}
use Rattle.agent_walks.specs.Walkers.{IsUnderWay}
use Rattle.agent_walks.proofs.sending.walker_at.Goals as goal

pub returns-in_ok-duplicate-in-Walking-clause-may_march : goal.returns-in_ok-duplicate-in-Walking-clause-may_march
returns-in_ok-duplicate-in-Walking-clause-may_march c =
    let way = c.requires.way in record {
      point = (subst (IsUnderWay way.0 c.args.goal.point c.args.goal.y) c.in-Walking.is way.1).within;
      goal = c.requires.goal;
    }
