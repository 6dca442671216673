use Rattle.std.proofs.Common.{ℕ, ◌<◌}
use Rattle.std.specs.Prelude.{slice_index_or}
use Rattle.mesh_types.specs.declared.answers.Corner.{Corner}
use Rattle.path_follow.specs.Following.{IsTurnOf}
use Rattle.tests_ways.proofs.kept.are_turns.Given as goal

-- the turns so far do
abbrev pub invariant-loop-turn : goal.invariant-loop-turn
invariant-loop-turn l = (k : ℕ) (d : Corner) → k < l.turn-index → IsTurnOf l.count (slice_index_or l.turns k d)
