use Rattle.std.proofs.Common.{rules, ◌<◌, length, arith}
use Rattle.surface_move.proofs.parts.possible_steps.Goals as goal

pub loop-edge-preserved : goal.loop-edge-preserved
loop-edge-preserved c =
    let there : c.loop-edge.edge < length c.args.polygon.now.corners = search rules in
    let kept = c.loop-edge.invariant in
    let next = c.steps_beside-possible.ensures in (
      λ g among held. next.all g held.q (kept.0 g among held) held.near (held.holds c.loop-edge.edge there),
      omega (arith, kept.1, next.least),
      omega (arith, kept.2, next.most),
    )
