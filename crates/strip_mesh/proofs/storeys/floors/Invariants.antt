use Rattle.std.proofs.Common.{◌≡◌, map, take}
use Rattle.mono_regions.specs.Indices.{cell_at}
use Rattle.strip_mesh.proofs.storeys.floors.Given as goal

-- the floors of the cells so far
abbrev pub invariant-loop-at : goal.invariant-loop-at
invariant-loop-at l = l.floors.items ≡ map (λ i. (cell_at l.cells i).floor) (take l.at-index l.run)
