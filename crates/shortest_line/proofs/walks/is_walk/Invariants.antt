use Rattle.std.proofs.Common.{take}
use Rattle.mesh_types.specs.Corridors.{WalksTo}
use Rattle.shortest_line.proofs.walks.is_walk.Given as goal

abbrev pub invariant-loop-link : goal.invariant-loop-link
invariant-loop-link l = WalksTo l.fn.mesh l.fn.first (take l.link-index l.fn.links) l.at
