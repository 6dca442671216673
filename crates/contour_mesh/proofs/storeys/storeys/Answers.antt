use Rattle.std.proofs.Common.{subst, sym}
use Rattle.mesh_types.specs.Storeys.{AreStoreys}
use Rattle.contour_walk.proofs.Contoured.{strips_fit}
use Rattle.contour_mesh.proofs.StoreyLaws.{storeys_sound}
use Rattle.contour_mesh.proofs.storeys.storeys.Goals as goal

pub new-requires : goal.new-requires
new-requires c =
    let source = c.args.source in
    subst AreStoreys (sym c.in_ok-list.ensures)
    (storeys_sound source.cells.now c.requires.rim.cells source.regions.now c.requires.regions c.requires.all
    (strips_fit source.cells.now c.requires.rim.cells source.regions.now c.requires.regions))
