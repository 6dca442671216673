use Rattle.std.proofs.Common.{◌≡◌, ℕ, ◌<◌}
use Rattle.std.specs.Prelude.{slice_index_or}
use Rattle.path_queries.specs.declared.nearest.HeldGoal.{HeldGoal}
use Rattle.path_queries.proofs.nearest.place_of.Given as goal

-- none of the goals so far is there
abbrev pub invariant-loop-goal : goal.invariant-loop-goal
invariant-loop-goal l = (k : ℕ) (d : HeldGoal) → k < l.goal-index → (slice_index_or l.held k d).at ≡ l.at → ⊥
