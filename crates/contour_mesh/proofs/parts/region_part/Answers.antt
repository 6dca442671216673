use Rattle.std.proofs.Common.{◌≡◌, Option, subst}
use Rattle.std.specs.Prelude.{IfOk}
use Rattle.mesh_types.specs.declared.region.RegionPart.{RegionPart}
use Rattle.contour_mesh.proofs.PartLaws.{part_flat, part_outline}
use Rattle.contour_mesh.proofs.parts.region_part.Goals as goal

pub returns-in-Flat-clause-value : goal.returns-in-Flat-clause-value
returns-in-Flat-clause-value c =
    part_flat c.args.source.table.now.window c.args.error c.args.source.cells.now c.args.source.regions.now c.args.id c.in_ok-edges.edges c.as_slice.result.now
    c.in_ok-simplify.field-0 c.in_ok-edges.ensures.contour c.in_ok-edges.ensures.ring c.as_slice.ensures c.in_ok-simplify.ensures.value c.in-Flat.is

pub returns-clause-value : goal.returns-clause-value
returns-clause-value c =
    let P : Option RegionPart → Type 0 = λ found. IfOk c.cut_part.result (λ part. part ≡ found) in
    subst P
    (part_outline c.args.source.table.now.window c.args.error c.args.source.cells.now c.args.source.regions.now c.args.id c.in_ok-edges.edges c.as_slice.result.now
    c.in_ok-simplify.field-0 c.in-Outline.outline c.in_ok-edges.ensures.contour c.in_ok-edges.ensures.ring c.as_slice.ensures c.in_ok-simplify.ensures.value
    c.in-Outline.is)
    c.cut_part.ensures.value
