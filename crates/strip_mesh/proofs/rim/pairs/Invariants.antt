use Rattle.std.proofs.Common.{◌≡◌, map, take}
use Rattle.nav_ground.specs.Directions.{number}
use Rattle.strip_mesh.specs.Strips.{pair_at}
use Rattle.strip_mesh.proofs.rim.pairs.Given as goal

-- the levels at the cells so far
abbrev pub invariant-loop-at : goal.invariant-loop-at
invariant-loop-at l = l.pairs.items ≡ map (pair_at l.cells (number l.side)) (take l.at-index l.run)
