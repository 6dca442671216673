use Rattle.std.proofs.Common.{◌≡◌, take}
use Rattle.random_place.specs.Spots.{open_cells_in}
use Rattle.random_place.proofs.counts.count_by_storey.Given as goal

-- the spots of the storeys so far
abbrev pub invariant-loop-storey : goal.invariant-loop-storey
invariant-loop-storey l = l.count ≡ open_cells_in l.areas (take l.storey l.storeys.list)
