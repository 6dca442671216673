use Rattle.std.proofs.Common.{◌≡◌}
use Rattle.corridor_search.specs.Landmarks.{are_alike}
use Rattle.corridor_search.proofs.landmarks.are_alike.Given as goal

-- the same of the landmarks so far
abbrev pub invariant-loop-place : goal.invariant-loop-place
invariant-loop-place l = l.alike ≡ are_alike l.place l.heights l.others
