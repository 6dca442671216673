use Rattle.obstacle_registry.proofs.RestoreLaws.{kept_off_rows}
use Rattle.obstacle_registry.proofs.registry.Registry.put_rows.Goals as goal

pub invariant_of-self : goal.invariant_of-self
invariant_of-self c =
    kept_off_rows c.take_all_down.new.self c.args.rows.items c.args.last c.args.version c.take_all_down.ensures.rules c.take_all_down.ensures.none c.requires.rows

pub returns-clause-rules : goal.returns-clause-rules
returns-clause-rules c = invariant_of-self c
