use Rattle.std.proofs.Common.{ap, is_some}
use Rattle.mesh_types.proofs.SmallLaws.{extents_refused}
use Rattle.mesh_types.proofs.polygons.PackedPolygons.new.Goals as goal

pub returns-in_default-2-clause-none : goal.returns-in_default-2-clause-none
returns-in_default-2-clause-none c = extents_refused c.args.polygons.now (c.in_ok-extents.ensures.none.0 (ap is_some c.in_default-2.is))
