use Rattle.std.proofs.Common.{◌≡◌, drop}
use Rattle.agent_walks.specs.Marches.{over_corners}
use Rattle.agent_walks.proofs.walkers.past_corners.Given as goal

-- it stands before the corners from here on, and all that it passes is still to come
abbrev pub invariant-loop-corner : goal.invariant-loop-corner
invariant-loop-corner l =
    (l.standing.passed ≡ l.corner-index)
    × (over_corners l.fn.point 0 l.fn.length l.corners ≡ over_corners l.standing.point l.standing.place l.standing.budget (drop l.corner-index l.corners))
