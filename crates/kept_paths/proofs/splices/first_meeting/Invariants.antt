use Rattle.std.proofs.Common.{take}
use Rattle.kept_paths.specs.Repairs.{AreApart}
use Rattle.kept_paths.proofs.splices.first_meeting.Given as goal

-- the links so far leave no polygon in which the walk behind stands
abbrev pub invariant-loop-taken : goal.invariant-loop-taken
invariant-loop-taken l = AreApart (take l.taken l.links) l.more l.last
