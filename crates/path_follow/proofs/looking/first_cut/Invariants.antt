use Rattle.path_follow.specs.Following.{LeadBefore}
use Rattle.path_follow.proofs.looking.first_cut.Given as goal

-- the links so far lead on
abbrev pub invariant-loop-place : goal.invariant-loop-place
invariant-loop-place l = LeadBefore l.mesh l.following l.place
