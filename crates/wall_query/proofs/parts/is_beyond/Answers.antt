use Rattle.nav_base.proofs.Sizes.{HasCoordinates-field}
use Rattle.wall_query.proofs.FieldPoints.{edge_field, portal_field}
use Rattle.wall_query.proofs.parts.is_beyond.Goals as goal

pub is_before-requires-clause-begin : goal.is_before-requires-clause-begin
is_before-requires-clause-begin c = HasCoordinates-field _ (edge_field c.args.mesh.now c.args.edge.now c.requires.sound c.requires.edge).begin

pub is_before-requires-clause-end : goal.is_before-requires-clause-end
is_before-requires-clause-end c = HasCoordinates-field _ (edge_field c.args.mesh.now c.args.edge.now c.requires.sound c.requires.edge).end

pub is_before-requires-clause-second : goal.is_before-requires-clause-second
is_before-requires-clause-second c = HasCoordinates-field _ (portal_field c.args.mesh.now c.args.link.now c.requires.sound c.requires.link).left
