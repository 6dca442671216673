use Rattle.std.proofs.Common.{◌≡◌}
use Rattle.corridor_search.specs.Landmarks.{gap_of}
use Rattle.corridor_search.proofs.landmarks.gap.Given as goal

-- the greatest difference over the landmarks so far
abbrev pub invariant-loop-place : goal.invariant-loop-place
invariant-loop-place l = l.gap ≡ gap_of l.place l.heights l.others
