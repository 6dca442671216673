use Rattle.std.proofs.Common.{ℕ, ◌<◌, length, get_or}
use Rattle.mesh_types.specs.declared.region.UnitEdge.{UnitEdge}
use Rattle.contour_walk.proofs.Earliest.{IsNoLater}
use Rattle.contour_walk.proofs.round.least_beginning.Given as goal

-- no edge so far begins before the one that was found
abbrev pub invariant-loop-k : goal.invariant-loop-k
invariant-loop-k l =
    (0 < length l.edges → l.least < length l.edges)
    × ((j : ℕ) (d : UnitEdge) → j < l.k → IsNoLater (get_or l.edges l.least d).from (get_or l.edges j d).from)
