use Rattle.std.proofs.Common.{◌≡◌, length, take}
use Rattle.fine_walk.proofs.WayLaws.{IsOnWay}
use Rattle.fine_walk.proofs.passing.fine_walk.Given as goal

-- the way has come over so many polygons
abbrev pub invariant-loop-count : goal.invariant-loop-count
invariant-loop-count l = record { on : IsOnWay l.mesh l.areas l.fn.first l.ray (take l.count l.visited) l.way l.count; room : length l.visited ≡ 24 }
