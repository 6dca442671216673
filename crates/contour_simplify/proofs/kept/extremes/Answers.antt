use Rattle.std.proofs.Common.{◌≡◌, ℕ, ◌+◌, ◌∙◌, sym, subst, refl, length, List, arith}
use Rattle.std.specs.List.{IsFirstBest}
use Rattle.mesh_types.specs.Rings.{beginnings}
use Rattle.mesh_types.specs.declared.region.UnitEdge.{UnitEdge}
use Rattle.mesh_types.specs.LinkOrder.{is_point_before}
use Rattle.mesh_types.specs.Simplified.{origin}
use Rattle.nav_base.specs.declared.point.Point.{Point}
use Rattle.std.proofs.lemmas.List.{length-map}
use Rattle.contour_simplify.proofs.Bests.{best_is}
use Rattle.mesh_types.proofs.LinkOrderLaws.{points_order}
use Rattle.contour_simplify.proofs.Rising.{greatest_order}
use Rattle.contour_simplify.proofs.Edges.{corner_taken, corner_kept}
use Rattle.contour_simplify.proofs.kept.extremes.Goals as goal
use Rattle.contour_simplify.proofs.kept.extremes.Goals.{then-is_before, else-is_before, then-is_before-2, else-is_before-2}

pub loop-place-preserved : goal.loop-place-preserved
loop-place-preserved c =
    let edges = c.args.edges.now in
    let place : ℕ = c.loop-place.place in
    record {
      least = elim c.if-is_before.branch [
        | then-is_before w ↦ subst (IsFirstBest is_point_before (beginnings edges) (place + 1)) (sym w.least-is)
            (corner_taken is_point_before points_order edges place c.loop-place.least _ _ c.loop-place.invariant.least c.loop-place-test.true (sym c.is_before.ensures ∙ w.if-is_before.true))
        | else-is_before w ↦ subst (IsFirstBest is_point_before (beginnings edges) (place + 1)) (sym w.least-is)
            (corner_kept is_point_before points_order edges place c.loop-place.least _ _ c.loop-place.invariant.least c.loop-place-test.true (sym c.is_before.ensures ∙ w.if-is_before.false))
      ];
      greatest = elim c.if-is_before-2.branch [
        | then-is_before-2 w ↦ subst (IsFirstBest (λ p q. is_point_before q p) (beginnings edges) (place + 1)) (sym w.greatest-is)
            (corner_taken (λ p q. is_point_before q p) greatest_order edges place c.loop-place.greatest _ _ c.loop-place.invariant.greatest c.loop-place-test.true
            (sym c.is_before-in-loop-place.ensures ∙ w.if-is_before-2.true))
        | else-is_before-2 w ↦ subst (IsFirstBest (λ p q. is_point_before q p) (beginnings edges) (place + 1)) (sym w.greatest-is)
            (corner_kept (λ p q. is_point_before q p) greatest_order edges place c.loop-place.greatest _ _ c.loop-place.invariant.greatest c.loop-place-test.true
            (sym c.is_before-in-loop-place.ensures ∙ w.if-is_before-2.false))
      ];
    }

pub returns : goal.returns
returns c =
    let corners : List Point = beginnings c.args.edges.now in
    let end : c.loop-place.place ≡ length corners =
    omega (arith, c.requires, c.loop-place-test.false, c.loop-place.auto.place-end, length-map c.args.edges.now (λ (edge : UnitEdge). edge.from)) in
    let least = best_is is_point_before corners c.loop-place.least origin (subst (λ (n : ℕ). IsFirstBest is_point_before corners n c.loop-place.least) end c.loop-place.invariant.least) in
    let greatest = best_is (λ p q. is_point_before q p) corners c.loop-place.greatest origin
    (subst (λ (n : ℕ). IsFirstBest (λ p q. is_point_before q p) corners n c.loop-place.greatest) end c.loop-place.invariant.greatest) in
    rw (c.min.ensures, c.max.ensures, least, greatest) refl
