use Rattle.std.proofs.Common.{refl}
use Rattle.agent_walks.proofs.sending.sent.Goals as goal

pub returns-in_default-clause-sent : goal.returns-in_default-clause-sent
returns-in_default-clause-sent c = c.in_default.ensures.none.0 refl

pub returns-in_default-locate-clause-sent : goal.returns-in_default-locate-clause-sent
returns-in_default-locate-clause-sent c = record {
  first = c.in-Some.first;
  start = c.in-Some.ensures.located;
  no_goal = c.in_default-locate.ensures.none.0 refl;
}
