use Rattle.std.proofs.Common.{◌∙◌, ap, length, map, sym}
use Rattle.mesh_types.specs.declared.region.RegionPart.{RegionPart}
use Rattle.mesh_types.specs.Facets.{Facet}
use Rattle.contour_mesh.proofs.DoorSteps.{facets_all}
use Rattle.contour_mesh.proofs.StoreyLaws.{homes_more}
use Rattle.contour_mesh.proofs.storeys.homes.Goals as goal

pub loop-region-preserved : goal.loop-region-preserved
loop-region-preserved c =
    homes_more c.args.parts.now c.loop-region.region _ c.index-parts-region.result c.loop-region.homes.items _ c.loop-region-test.true
    c.index-parts-region.is (c.len.ensures ∙ ap (λ (part : RegionPart). length part.pieces) (sym c.index-parts-region.is)) c.loop-region.invariant
    c.in_ok-push_times.ensures

pub returns : goal.returns
returns c =
    c.from_vec.ensures ∙ c.loop-region.invariant
    ∙ ap (map (λ (facet : Facet). facet.region)) (facets_all c.args.parts.now c.loop-region.region c.loop-region-test.false)
