use Rattle.std.proofs.Common.{ℕ, ◌<◌}
use Rattle.surface_move.specs.Moves.{IsThere, nth_polygon}
use Rattle.tests_paths.proofs.parts.are_there.Given as goal

-- the polygons so far are there
abbrev pub invariant-loop-at : goal.invariant-loop-at
invariant-loop-at l = (k : ℕ) → k < l.at-index → IsThere l.mesh (nth_polygon l.polys k)
