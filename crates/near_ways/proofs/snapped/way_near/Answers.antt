use Rattle.near_ways.proofs.JoinLaws.{alike_goalless, one_nearest}
use Rattle.near_ways.proofs.snapped.way_near.Goals as goal

pub returns-in_default-nearest-clause-only : goal.returns-in_default-nearest-clause-only
returns-in_default-nearest-clause-only c all =
    alike_goalless c.args.mesh.now c.args.query.now c.in-Nearest.from c.in-Nearest.ensures.right c.in_default-nearest.ensures.right

pub way_joining-requires-clause-one_start : goal.way_joining-requires-clause-one_start
way_joining-requires-clause-one_start c = one_nearest c.args.mesh.now c.args.query.now.from c.in-Nearest.from c.in-Nearest.ensures.only

pub way_joining-requires-clause-one_end : goal.way_joining-requires-clause-one_end
way_joining-requires-clause-one_end c = one_nearest c.args.mesh.now c.args.query.now.goal c.in-Nearest-nearest.goal c.in-Nearest-nearest.ensures.only
