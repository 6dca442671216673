use Rattle.tri_raster.proofs.GroupLaws.{HasFront}
use Rattle.tri_raster.proofs.group.first_group.Given as goal

-- the front so far
abbrev pub invariant-loop-place : goal.invariant-loop-place
invariant-loop-place l = HasFront l.shadows l.place l.top
