use Rattle.wall_query.proofs.FieldPoints.{portal_field, start_field}
use Rattle.wall_query.proofs.around.is_passed.Goals as goal

pub is_near-requires-clause-left : goal.is_near-requires-clause-left
is_near-requires-clause-left c = (portal_field c.args.mesh.now c.args.link.now c.requires.sound c.requires.link).left

pub is_near-requires-clause-right : goal.is_near-requires-clause-right
is_near-requires-clause-right c = (portal_field c.args.mesh.now c.args.link.now c.requires.sound c.requires.link).right

pub is_near-requires-clause-from : goal.is_near-requires-clause-from
is_near-requires-clause-from c = start_field c.args.mesh.now c.args.around.now c.requires.sound c.requires.start
