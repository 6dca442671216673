use Rattle.std.proofs.Common.{◌≡◌, [], replicate}
use Rattle.nav_play.proofs.lanes.LaneAdds.new.Given as goal

-- as many lanes as turns, all without numbers
abbrev pub invariant-loop : goal.invariant-loop
invariant-loop l = l.lanes.items ≡ replicate l.counter []
