use Rattle.std.proofs.Common.{◌≡◌, ℤ, false, w32, to_z, of_z, sym, subst}
use Rattle.std.specs.Prelude.{◌↔◌, ◌⊎◌}
use Rattle.nav_base.specs.declared.point.Point.{Point}
use Rattle.mesh_types.specs.LinkOrder.{is_point_before}
use Rattle.surface_move.specs.Moves.{IsNearAlong}
use Rattle.surface_move.proofs.NearPoints.{two_points, in_order}
use Rattle.surface_move.proofs.Numbers.{coordinate_reads}
use Rattle.surface_move.proofs.nearby.near_points.Goals as goal

pub returns-clause-near : goal.returns-clause-near
returns-clause-near c =
    let way = c.args.way in
    let across = c.near_coordinates-across in
    let along = c.near_coordinates-along in
    two_points way c.args.step across.result.0 across.result.1 along.result.0 along.result.1 _ _ c.requires.way
    (λ i. record { x = coordinate_reads across.result.0 across.ensures.low i; z = coordinate_reads along.result.0 along.ensures.low i })
    (λ i. record { x = coordinate_reads across.result.1 across.ensures.high i; z = coordinate_reads along.result.1 along.ensures.high i })
    (subst (λ (from : ℤ). (q : ℤ) → IsNearAlong way.steps c.args.step from way.to.x q ↔ ((q ≡ across.result.0) ⊎ (q ≡ across.result.1)))
    (coordinate_reads way.from.x c.requires.way.from.across)
    (subst (λ (to : ℤ). (q : ℤ) → IsNearAlong way.steps c.args.step (to_z w32 (of_z w32 way.from.x)) to q ↔ ((q ≡ across.result.0) ⊎ (q ≡ across.result.1)))
    (coordinate_reads way.to.x c.requires.way.to.across) across.ensures.near))
    (subst (λ (from : ℤ). (q : ℤ) → IsNearAlong way.steps c.args.step from way.to.z q ↔ ((q ≡ along.result.0) ⊎ (q ≡ along.result.1)))
    (coordinate_reads way.from.z c.requires.way.from.along)
    (subst (λ (to : ℤ). (q : ℤ) → IsNearAlong way.steps c.args.step (to_z w32 (of_z w32 way.from.z)) to q ↔ ((q ≡ along.result.0) ⊎ (q ≡ along.result.1)))
    (coordinate_reads way.to.z c.requires.way.to.along) along.ensures.near))

pub returns-clause-order : goal.returns-clause-order
returns-clause-order c =
    let across = c.near_coordinates-across in
    let along = c.near_coordinates-along in
    let second : Point = record { x = across.result.1; z = along.result.1 } in
    subst (λ (p : Point). is_point_before p (record { x = to_z w32 (of_z w32 across.result.0); z = to_z w32 (of_z w32 along.result.0) }) ≡ false)
    (sym (λ i. record { x = coordinate_reads across.result.1 across.ensures.high i; z = coordinate_reads along.result.1 along.ensures.high i }))
    (subst (λ (p : Point). is_point_before second p ≡ false)
    (sym (λ i. record { x = coordinate_reads across.result.0 across.ensures.low i; z = coordinate_reads along.result.0 along.ensures.low i }))
    (in_order across.result.0 along.result.0 across.result.1 along.result.1 across.ensures.order along.ensures.order))
