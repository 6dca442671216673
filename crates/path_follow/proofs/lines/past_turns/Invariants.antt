use Rattle.std.proofs.Common.{◌≡◌, drop}
use Rattle.agent_walks.specs.Marches.{over_corners}
use Rattle.path_follow.proofs.lines.past_turns.Given as goal

-- it stands before the turns from here on, and all that it passes is still to come
abbrev pub invariant-loop-turn : goal.invariant-loop-turn
invariant-loop-turn l =
    (l.standing.passed ≡ l.turn-index)
    × (over_corners l.fn.point 0 l.fn.length l.turns ≡ over_corners l.standing.point l.standing.place l.standing.budget (drop l.turn-index l.turns))
