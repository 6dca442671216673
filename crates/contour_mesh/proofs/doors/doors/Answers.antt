use Rattle.std.proofs.Common.{ap, arith, length}
use Rattle.mesh_types.specs.declared.region.RegionPart.{RegionPart}
use Rattle.contour_mesh.proofs.DoorSteps.{doors_end, doors_more, few_polygons}
use Rattle.contour_mesh.proofs.doors.doors.Goals as goal

pub push_part_doors-requires-clause-few : goal.push_part_doors-requires-clause-few
push_part_doors-requires-clause-few c =
    few_polygons c.args.parts.now c.loop-region.region c.loop-region.polygon c.index-parts-region.result c.loop-region.doors.items c.loop-region-test.true
    c.index-parts-region.is c.loop-region.invariant c.requires.polygons

pub overflow_cast-polygon : goal.overflow_cast-polygon
overflow_cast-polygon c =
    let few = few_polygons c.args.parts.now c.loop-region.region c.loop-region.polygon c.index-parts-region-in-loop-region.result c.loop-region.doors.items
    c.loop-region-test.true c.index-parts-region-in-loop-region.is c.loop-region.invariant c.requires.polygons in
    omega (arith, few, c.len.ensures, ap (λ (p : RegionPart). length p.pieces) c.index-parts-region-in-loop-region.is)

pub overflow_add-polygon : goal.overflow_add-polygon
overflow_add-polygon c =
    let few = few_polygons c.args.parts.now c.loop-region.region c.loop-region.polygon c.index-parts-region-in-loop-region.result c.loop-region.doors.items
    c.loop-region-test.true c.index-parts-region-in-loop-region.is c.loop-region.invariant c.requires.polygons in
    omega (arith, few, c.len.ensures, ap (λ (p : RegionPart). length p.pieces) c.index-parts-region-in-loop-region.is)

pub loop-region-preserved : goal.loop-region-preserved
loop-region-preserved c =
    doors_more c.args.parts.now c.loop-region.region c.loop-region.polygon c.len.result c.index-parts-region.result c.index-parts-region-in-loop-region.result
    c.loop-region.doors.items _ c.loop-region-test.true c.index-parts-region.is c.len.ensures c.loop-region.invariant
    c.in_ok-push_part_doors.ensures

pub returns : goal.returns
returns c = doors_end c.args.parts.now c.loop-region.region c.loop-region.polygon c.loop-region.doors.items c.loop-region-test.false c.loop-region.invariant
