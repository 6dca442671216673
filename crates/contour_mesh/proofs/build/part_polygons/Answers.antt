use Rattle.std.proofs.Common.{◌≡◌, ◌∙◌, List, Option, ap, map, subst}
use Rattle.std.specs.Prelude.{IfOk}
use Rattle.mesh_types.specs.declared.polygon.Polygon.{Polygon}
use Rattle.mesh_types.specs.Facets.{facets_of}
use Rattle.contour_mesh.specs.declared.parts.RegionFloors.{RegionFloors}
use Rattle.contour_mesh.specs.Footings.{facet_over_footing}
use Rattle.contour_mesh.proofs.FootingLaws.{polygons_are}
use Rattle.contour_mesh.proofs.build.part_polygons.Goals as goal

pub returns : goal.returns
returns c =
    let P : List Polygon → Type 0 = λ wanted. IfOk c.polygons.result (λ polys. polys ≡ wanted) in
    subst P
    (ap (λ (footings : List (Option RegionFloors)). map (facet_over_footing footings) (facets_of c.args.parts.now)) c.as_slice.ensures.value
    ∙ polygons_are c.args.source.cells.now c.args.source.regions.now c.in_ok-footings.footings.items c.in_ok-footings.ensures (facets_of c.args.parts.now))
    c.polygons.ensures
