use Rattle.std.proofs.Common.{ℕ, ◌<◌, get_or}
use Rattle.mesh_types.specs.declared.links.Link.{Link}
use Rattle.corridor_search.specs.Islands.{IsFromInside}
use Rattle.corridor_search.proofs.islands.are_alone.Given as goal

-- the links so far leave the island alone
abbrev pub invariant-loop-link : goal.invariant-loop-link
invariant-loop-link l = (k : ℕ) (d : Link) → k < l.link-index → IsFromInside l.island (get_or l.links k d)
