use Rattle.std.proofs.Common.{◌∙◌, List, Option, Some, ap, arith, subst, sym}
use Rattle.std.specs.Prelude.{IfSome}
use Rattle.mesh_types.specs.declared.region.RegionPart.{RegionPart}
use Rattle.mesh_types.specs.Parts.{region_part}
use Rattle.contour_walk.proofs.Contoured.{few_regions}
use Rattle.contour_mesh.specs.Parts.{IsCutPart}
use Rattle.contour_mesh.proofs.PartLaws.{parts_all, parts_more, parts_stop}
use Rattle.contour_mesh.proofs.parts.parts.Goals as goal

pub overflow_cast-id-end : goal.overflow_cast-id-end
overflow_cast-id-end c =
    omega (
      arith,
      c.len-id-end.ensures,
      few_regions c.args.source.cells.now c.requires.rim.cells c.args.source.regions.now c.requires.regions,
      c.requires.rim.cells.few,
    )

pub returns-then-flat-clause-value : goal.returns-then-flat-clause-value
returns-then-flat-clause-value c = c.in_ok-flat.ensures c.if-flat.true

pub returns-in_default-clause-value : goal.returns-in_default-clause-value
returns-in_default-clause-value c =
    parts_stop c.args.source.table.now.window c.args.error c.args.source.cells.now c.args.source.regions.now c.loop-id.id (omega (arith, c.loop-id-test.true, c.len-id-end.ensures))
    (sym c.in_default.is ∙ c.in_ok-part.ensures.value)

pub loop-id-preserved : goal.loop-id-preserved
loop-id-preserved c =
    let P : Option RegionPart → Type 0 = λ found. IfSome found IsCutPart in
    parts_more (region_part c.args.source.table.now.window c.args.error c.args.source.cells.now c.args.source.regions.now) c.loop-id.id c.loop-id.parts.items c.push.new.self.items
    c.in-Some.part c.loop-id.invariant (sym c.in-Some.is ∙ c.in_ok-part.ensures.value) (subst P c.in-Some.is c.in_ok-part.ensures.part)
    c.in_ok-push.ensures.items

pub returns-clause-value : goal.returns-clause-value
returns-clause-value c =
    ap (λ (parts : List RegionPart). Some parts) c.from_vec.ensures
    ∙ parts_all c.args.source.table.now.window c.args.error c.args.source.cells.now c.args.source.regions.now c.loop-id.id c.loop-id.parts.items
    (omega (arith, c.loop-id-test.false, c.loop-id.auto.id-end, c.len-id-end.ensures)) c.loop-id.invariant
