use Rattle.std.proofs.Common.{◌++◌, ◌∷◌, [], ap, ◌∙◌, sym, map, subst, rules}
use Rattle.std.proofs.lemmas.List.{map_more, take_all}
use Rattle.std.proofs.lemmas.List.Elements.{All-nil}
use Rattle.mesh_types.specs.declared.polygon.Polygon.{Polygon}
use Rattle.mesh_types.specs.Extents.{extent_of}
use Rattle.mesh_types.specs.SmallNumbers.{IsSmallExtent}
use Rattle.mesh_types.proofs.SmallLaws.{IsSure, sure_more, sure_all}
use Rattle.mesh_types.proofs.polygons.extents.Goals as goal

-- the extent of a polygon is small
abbrev HasSmall : Polygon → Type 0
HasSmall polygon = IsSmallExtent (extent_of polygon)

pub loop-polygon-init : goal.loop-polygon-init
loop-polygon-init c = (search rules, λ not. absurd (not (All-nil HasSmall)))

pub loop-polygon-preserved : goal.loop-polygon-preserved
loop-polygon-preserved c =
    let is = c.extent.ensures ∙ ap extent_of c.polygon-item.is in
    let made = c.in-Some.ensures.value ∙ is in (
      c.in_ok-push-in-Some.ensures.items ∙ (λ i. c.loop-polygon.invariant.0 i ++ made i ∷ [])
          ∙ sym (map_more extent_of c.args.polygons.now c.loop-polygon.polygon-index c.polygon-item.result c.loop-polygon-test.true),
      sure_more HasSmall c.args.polygons.now c.loop-polygon.polygon-index c.polygon-item.result c.loop-polygon-test.true c.loop-polygon.invariant.1
          (subst (λ extent. IsSure (IsSmallExtent extent)) is c.in-Some.ensures.none.1),
    )

pub returns-clause-value : goal.returns-clause-value
returns-clause-value c =
    c.from_vec.ensures ∙ c.loop-polygon.invariant.0
    ∙ ap (map extent_of) (take_all c.loop-polygon.polygon-index c.args.polygons.now c.loop-polygon-test.false)

pub returns-clause-none : goal.returns-clause-none
returns-clause-none c = sure_all HasSmall c.args.polygons.now c.loop-polygon.polygon-index c.loop-polygon-test.false c.loop-polygon.invariant.1
