use Rattle.std.proofs.Common.{◌≡◌, ◌∙◌, List, map, ap}
use Rattle.std.proofs.lemmas.Result.{IfOk-weaker}
use Rattle.mesh_types.specs.declared.polygon.Polygon.{Polygon}
use Rattle.mesh_types.specs.Facets.{facets_of}
use Rattle.contour_mesh.specs.Footings.{facet_over_footing}
use Rattle.contour_mesh.proofs.DoorSteps.{facets_all, polygons_more}
use Rattle.contour_mesh.proofs.polygons.polygons.Goals as goal

pub loop-region-preserved : goal.loop-region-preserved
loop-region-preserved c =
    polygons_more c.args.footings.now c.args.parts.now c.loop-region.region _ _ c.loop-region.polys.items _ c.loop-region-test.true
    c.index-parts-region.is c.footing_at-footing.ensures c.loop-region.invariant c.in_ok-push_polygons.ensures

pub returns : goal.returns
returns c =
    let all : c.loop-region.polys.items ≡ map (facet_over_footing c.args.footings.now) (facets_of c.args.parts.now) =
    c.loop-region.invariant ∙ ap (map (facet_over_footing c.args.footings.now)) (facets_all c.args.parts.now c.loop-region.region c.loop-region-test.false) in
    IfOk-weaker c.from_vec.result (λ (polys : List Polygon). polys ≡ c.loop-region.polys.items)
    (λ (polys : List Polygon). polys ≡ map (facet_over_footing c.args.footings.now) (facets_of c.args.parts.now)) (λ polys same. same ∙ all) c.from_vec.ensures
