use Rattle.std.proofs.Common.{refl}
use Rattle.path_queries.proofs.WayParts.{located-there}
use Rattle.path_queries.proofs.floods_back.flood_back_in.Goals as goal

pub returns-in_default : goal.returns-in_default
returns-in_default c = record { right = c.in_default.ensures.none.0 refl }

pub flood_to-requires-clause-last : goal.flood_to-requires-clause-last
flood_to-requires-clause-last c = located-there c.args.mesh.now c.args.query.now.at c.args.query.now.y c.in-Some.last c.in-Some.ensures.located

pub returns : goal.returns
returns c = record {
  right = record { last = c.in-Some.last; goal = c.in-Some.ensures.located; flood = c.in_ok-list.ensures.flood };
}
