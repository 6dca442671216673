use Rattle.std.proofs.Common.{sym, subst}
use Rattle.mesh_types.specs.LinkIndex.{AreOrderedLinks, AreBelow}
use Rattle.contour_mesh.proofs.FacingLaws.{links_ordered, links_below}
use Rattle.contour_mesh.proofs.links.door_links.Goals as goal

pub new-requires-clause-order : goal.new-requires-clause-order
new-requires-clause-order c =
    subst AreOrderedLinks (sym c.in_ok-links.ensures) (links_ordered c.args.tile c.args.polygons c.args.doors.now c.requires.polygons)

pub new-requires-clause-within : goal.new-requires-clause-within
new-requires-clause-within c =
    subst (AreBelow c.args.polygons) (sym c.in_ok-links.ensures) (links_below c.args.tile c.args.polygons c.args.doors.now c.requires.polygons)
