use Rattle.std.proofs.Common.{rules, arith, sym, ◌∙◌}
use Rattle.std.proofs.lemmas.Fn.{always_returns_same}
use Rattle.mesh_types.specs.declared.region.PortalEdge.{PortalEdge}
use Rattle.mesh_types.specs.LinkOrder.{is_point_before}
use Rattle.contour_mesh.proofs.FacingLaws.{ahead_first, ahead_passed, behind_none}
use Rattle.contour_mesh.proofs.doors.facing.Goals as goal

pub loop-place-init : goal.loop-place-init
loop-place-init c =
    let corner = c.args.door.now.end in
    let point = c.partition_point-first.ensures.partitioned (λ (other : PortalEdge). is_point_before other.begin corner)
    (always_returns_same _ _ _ (λ a r q k. search rules)) (ahead_first corner c.args.by_begin.now c.requires.order) in
    ahead_passed c.args.door.now c.args.by_begin.now c.partition_point-first.result c.requires.meet (λ k d below. point.0 k d (omega arith) below)

pub returns-then-not-is_same_point : goal.returns-then-not-is_same_point
returns-then-not-is_same_point c =
    let corner = c.args.door.now.end in
    let point = c.partition_point-first.ensures.partitioned (λ (other : PortalEdge). is_point_before other.begin corner)
    (always_returns_same _ _ _ (λ a r q k. search rules)) (ahead_first corner c.args.by_begin.now c.requires.order) in
    sym (behind_none c.args.door.now c.args.by_begin.now c.loop-place.place _ c.is_same_point.result c.requires.order c.requires.meet c.loop-place-test.true
    (point.1 c.loop-place.place _ c.loop-place.auto.place c.loop-place-test.true) c.is_same_point.ensures c.if-not-is_same_point.true)
    ∙ c.loop-place.invariant
