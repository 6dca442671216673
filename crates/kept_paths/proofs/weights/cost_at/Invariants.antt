use Rattle.std.proofs.Common.{◌≡◌, take}
use Rattle.mesh_types.specs.Corridors.{cost_of}
use Rattle.path_queries.specs.Filters.{with_costs}
use Rattle.kept_paths.proofs.weights.cost_at.Given as goal

-- the cost of the links so far
abbrev pub invariant-loop-link : goal.invariant-loop-link
invariant-loop-link l = l.cost ≡ cost_of (with_costs l.costs l.mesh) (take l.link-index l.links)
