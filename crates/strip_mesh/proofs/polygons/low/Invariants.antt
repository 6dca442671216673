use Rattle.std.proofs.Common.{◌≡◌, min, take, get_or}
use Rattle.std.specs.Prelude.{fold}
use Rattle.mono_regions.specs.Indices.{cell_at}
use Rattle.strip_mesh.proofs.polygons.low.Given as goal

-- the least floor of the cells so far
abbrev pub invariant-loop-at : goal.invariant-loop-at
invariant-loop-at l = l.low ≡ fold (λ low i. min low (cell_at l.cells i).floor) (cell_at l.cells (get_or l.run 0 0)).floor (take l.at-index l.run)
