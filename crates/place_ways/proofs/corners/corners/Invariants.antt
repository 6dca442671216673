use Rattle.std.proofs.Common.{take}
use Rattle.place_ways.proofs.CornerLaws.{AreCornersSoFar}
use Rattle.place_ways.proofs.corners.corners.Given as goal

-- the corners up to the turns so far
abbrev pub invariant-loop-turn : goal.invariant-loop-turn
invariant-loop-turn l = AreCornersSoFar l.mesh l.fn.from l.links (take l.turn-index l.turns) l.corners.items
