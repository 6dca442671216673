use Rattle.std.proofs.Common.{ℕ, ◌≤◌}
use Rattle.surface_move.specs.Ways.{HoldsNear, IsAmong}
use Rattle.surface_move.proofs.parts.possible_steps.Given as goal

-- no number of steps was left out after which the polygon holds a near point
abbrev pub invariant-loop-edge : goal.invariant-loop-edge
invariant-loop-edge l =
    ((g : ℕ) → IsAmong l.fn.steps g → HoldsNear l.polygon l.way.from l.way.to g → IsAmong l.possible g)
    × (l.fn.steps.least ≤ l.possible.least) × (l.possible.most ≤ l.fn.steps.most)
