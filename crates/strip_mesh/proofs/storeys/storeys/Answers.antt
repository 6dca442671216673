use Rattle.std.proofs.Common.{subst, sym}
use Rattle.mesh_types.specs.Storeys.{AreStoreys}
use Rattle.strip_mesh.proofs.StoreyLaws.{storeys_sound}
use Rattle.strip_mesh.proofs.storeys.storeys.Goals as goal

pub new-requires : goal.new-requires
new-requires c = subst AreStoreys (sym c.in_ok-list.ensures) (storeys_sound c.args.strips.now.free.cells c.requires.cut)
