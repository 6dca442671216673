use Rattle.std.proofs.Common.{◌≡◌, take}
use Rattle.mesh_types.specs.Corridors.{cost_of}
use Rattle.agent_walks.proofs.marching.cost.Given as goal

-- the cost of the links so far
abbrev pub invariant-loop-link : goal.invariant-loop-link
invariant-loop-link l = l.cost ≡ cost_of l.mesh (take l.link-index l.links)
