use Rattle.std.proofs.Common.{◌∙◌, List, map, ap, sym}
use Rattle.std.proofs.lemmas.List.{map_more, take_all}
use Rattle.nav_base.specs.declared.point.Point.{Point}
use Rattle.nav_base.specs.Convex.{corner_at}
use Rattle.mesh_types.specs.declared.polygon.Polygon.{Polygon}
use Rattle.contour_mesh.proofs.polygons.polygon_over.Goals as goal

pub bounds-outline-place : goal.bounds-outline-place
bounds-outline-place c = c.requires.places c.loop-place.place-index 0 c.loop-place-test.true

pub loop-place-preserved : goal.loop-place-preserved
loop-place-preserved c =
    rw (c.in_ok-push.ensures.items, c.loop-place.invariant)
    (sym (map_more (corner_at c.args.outline.now) c.args.places.now c.loop-place.place-index 0 c.loop-place-test.true))

pub returns : goal.returns
returns c =
    let over : List Point → Polygon =
    λ corners. record { corners = corners; area = c.args.footing.area; low = c.args.footing.low; high = c.args.footing.high } in
    ap over (c.from_slice.ensures ∙ c.as_slice.ensures.value ∙ c.loop-place.invariant
    ∙ ap (map (corner_at c.args.outline.now)) (take_all c.loop-place.place-index c.args.places.now c.loop-place-test.false))
