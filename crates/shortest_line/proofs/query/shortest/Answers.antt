use Rattle.std.proofs.Common.{refl}
use Rattle.shortest_line.proofs.query.shortest.Goals as goal

pub returns-in_default : goal.returns-in_default
returns-in_default c = record { right = c.in_default.ensures.none.0 refl }

pub returns-in_default-locate : goal.returns-in_default-locate
returns-in_default-locate c = record {
  right = record {
    first = c.in-Some.first;
    start = c.in-Some.ensures.located;
    no_goal = c.in_default-locate.ensures.none.0 refl;
  };
}
