use Rattle.std.proofs.Common.{ℕ, ◌<◌, get_or}
use Rattle.mesh_types.specs.declared.links.Link.{Link}
use Rattle.corridor_search.specs.Landmarks.{IsGentle}
use Rattle.corridor_search.proofs.landmarks.are_gentle_along.Given as goal

-- the links so far are gentle
abbrev pub invariant-loop-link : goal.invariant-loop-link
invariant-loop-link l = (k : ℕ) (d : Link) → k < l.link-index → IsGentle l.mesh l.marks (get_or l.links k d)
