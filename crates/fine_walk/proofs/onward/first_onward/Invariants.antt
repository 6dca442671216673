use Rattle.std.proofs.Common.{take}
use Rattle.fine_walk.specs.Passing.{IsFirstIn, IsOnward}
use Rattle.fine_walk.proofs.onward.first_onward.Given as goal

-- the first of the links so far that leads on
abbrev pub invariant-loop-link : goal.invariant-loop-link
invariant-loop-link l =
    IsFirstIn (IsOnward l.crossing.mesh.now l.crossing.areas l.crossing.polygon.now l.crossing.ray l.visited) (take l.link-index l.links) l.first
