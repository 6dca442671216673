use Rattle.std.proofs.Common.{◌≡◌, ◌∷◌, map, take}
use Rattle.mesh_types.specs.declared.links.Link.{Link}
use Rattle.agent_walks.proofs.marching.polygons.Given as goal

-- the first polygon, and those that the links so far enter
abbrev pub invariant-loop-link : goal.invariant-loop-link
invariant-loop-link l = l.polys.items ≡ l.fn.first ∷ map (λ (link : Link). link.to) (take l.link-index l.links)
