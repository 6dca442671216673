use Rattle.kept_paths.proofs.RestLaws.{IsJoinedFrom}
use Rattle.kept_paths.proofs.rests.longest_rest.Given as goal

-- from the place on the links join
abbrev pub invariant-loop-start : goal.invariant-loop-start
invariant-loop-start l = IsJoinedFrom l.mesh l.path l.cut l.end.to l.start l.to

abbrev pub decreases-loop-start : goal.decreases-loop-start
decreases-loop-start l = l.start
