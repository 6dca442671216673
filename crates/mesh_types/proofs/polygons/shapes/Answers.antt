use Rattle.std.proofs.Common.{◌++◌, ◌∷◌, [], ◌∙◌, sym, subst, rules}
use Rattle.std.proofs.lemmas.List.{take_more, take_all}
use Rattle.std.proofs.lemmas.List.Elements.{All-nil}
use Rattle.mesh_types.specs.SmallNumbers.{IsSmallPolygon}
use Rattle.mesh_types.proofs.SmallLaws.{IsSure, sure_more, sure_all}
use Rattle.mesh_types.proofs.polygons.shapes.Goals as goal

pub loop-polygon-init : goal.loop-polygon-init
loop-polygon-init c = (search rules, λ not. absurd (not (All-nil IsSmallPolygon)))

pub loop-polygon-preserved : goal.loop-polygon-preserved
loop-polygon-preserved c =
    let made = c.in-Some.ensures.value ∙ c.polygon-item.is in (
      c.in_ok-push-in-Some.ensures.items ∙ (λ i. c.loop-polygon.invariant.0 i ++ made i ∷ [])
          ∙ sym (take_more c.args.polygons.now c.loop-polygon.polygon-index c.polygon-item.result c.loop-polygon-test.true),
      sure_more IsSmallPolygon c.args.polygons.now c.loop-polygon.polygon-index c.polygon-item.result c.loop-polygon-test.true c.loop-polygon.invariant.1
          (subst (λ polygon. IsSure (IsSmallPolygon polygon)) c.polygon-item.is c.in-Some.ensures.none.1),
    )

pub returns-clause-value : goal.returns-clause-value
returns-clause-value c =
    c.from_vec.ensures ∙ c.loop-polygon.invariant.0 ∙ take_all c.loop-polygon.polygon-index c.args.polygons.now c.loop-polygon-test.false

pub returns-clause-none : goal.returns-clause-none
returns-clause-none c = sure_all IsSmallPolygon c.args.polygons.now c.loop-polygon.polygon-index c.loop-polygon-test.false c.loop-polygon.invariant.1
