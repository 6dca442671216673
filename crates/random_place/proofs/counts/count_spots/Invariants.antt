use Rattle.std.proofs.Common.{◌≡◌, ◌*◌, ◌≤◌, take}
use Rattle.random_place.specs.Spots.{spot_count}
use Rattle.random_place.proofs.counts.count_spots.Given as goal

-- the spots of the tiles so far
abbrev pub invariant-loop-tile : goal.invariant-loop-tile
invariant-loop-tile l = (l.count ≡ spot_count l.areas (take l.tile l.mesh.tiles)) × (l.count ≤ l.tile * 19342813113834066795298816)
