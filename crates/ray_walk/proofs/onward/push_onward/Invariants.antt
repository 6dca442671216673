use Rattle.std.proofs.Common.{take}
use Rattle.ray_walk.specs.Walking.{IsOnward, Gathers}
use Rattle.ray_walk.proofs.onward.push_onward.Given as goal

-- the links so far that lead on were appended
abbrev pub invariant-loop-link : goal.invariant-loop-link
invariant-loop-link l = Gathers (IsOnward l.inside.polygon.now l.inside.ray l.visited) l.initial.onward.items (take l.link-index l.links) l.onward.items
