use Rattle.contour_mesh.proofs.PartLaws.{part_flat}
use Rattle.contour_mesh.proofs.parts.is_flat.Goals as goal

pub returns-in-Flat : goal.returns-in-Flat
returns-in-Flat c = λ yes.
    part_flat c.args.source.table.now.window c.args.error c.args.source.cells.now c.args.source.regions.now c.args.id c.in_ok-contour.contour c.as_slice.result.now
    c.in_ok-simplify.field-0 c.in_ok-contour.ensures.contour c.in_ok-contour.ensures.ring c.as_slice.ensures c.in_ok-simplify.ensures.value c.in-Flat.is
