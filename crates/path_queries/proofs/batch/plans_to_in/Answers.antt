use Rattle.std.proofs.Common.{sym, subst}
use Rattle.path_queries.specs.Batches.{IsFloodToGoal}
use Rattle.path_queries.proofs.WayParts.{located-there}
use Rattle.path_queries.proofs.batch.plans_to_in.Goals as goal

pub flood_to-requires-clause-last : goal.flood_to-requires-clause-last
flood_to-requires-clause-last c = located-there c.args.mesh.now c.args.goal.point c.args.goal.y c.in-Some.last c.in-Some.ensures.located

pub plans_by-requires-clause-flood : goal.plans_by-requires-clause-flood
plans_by-requires-clause-flood c =
    subst (IsFloodToGoal c.args.mesh.now c.args.goal c.args.filter.now) (sym c.as_slice-polygons.ensures)
    (record { last = c.in-Some.last; located = c.in-Some.ensures.located; flood = c.in_ok-list.ensures })
