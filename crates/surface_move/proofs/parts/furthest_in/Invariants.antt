use Rattle.std.proofs.Common.{ℕ, ◌≤◌}
use Rattle.surface_move.specs.Ways.{HoldsNear, IsAmong}
use Rattle.surface_move.proofs.parts.furthest_in.Given as goal

-- after no possible number of steps above the one at hand does the polygon hold a near point
abbrev pub invariant-loop-step : goal.invariant-loop-step
invariant-loop-step l =
    (l.step ≤ l.possible.most) × ((g : ℕ) → IsAmong l.possible g → HoldsNear l.polygon l.way.from l.way.to g → g ≤ l.step)

-- the number of steps falls
abbrev pub decreases-loop-step : goal.decreases-loop-step
decreases-loop-step l = l.step
