use Rattle.std.proofs.Common.{ℕ, ◌<◌, get_or}
use Rattle.mesh_types.specs.declared.links.Link.{Link}
use Rattle.corridor_search.specs.Changes.{IsGentleInto}
use Rattle.corridor_search.proofs.changed.are_gentle_into.Given as goal

-- the links so far are gentle where they enter the tile
abbrev pub invariant-loop-link : goal.invariant-loop-link
invariant-loop-link l = (k : ℕ) (d : Link) → k < l.link-index → IsGentleInto l.mesh l.marks l.tile (get_or l.links k d)
