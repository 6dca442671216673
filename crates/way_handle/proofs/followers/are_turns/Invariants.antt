use Rattle.std.proofs.Common.{ℕ, ◌<◌}
use Rattle.std.specs.Prelude.{slice_index_or}
use Rattle.nav_handle.specs.declared.wire.NavdTurn.{NavdTurn}
use Rattle.path_follow.specs.Following.{IsTurnOf}
use Rattle.way_handle.specs.Reading.{turn_of}
use Rattle.way_handle.proofs.followers.are_turns.Given as goal

-- the turns so far do
abbrev pub invariant-loop-turn : goal.invariant-loop-turn
invariant-loop-turn l = (k : ℕ) (d : NavdTurn) → k < l.turn-index → IsTurnOf l.count (turn_of (slice_index_or l.turns k d))
