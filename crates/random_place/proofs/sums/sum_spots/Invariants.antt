use Rattle.std.proofs.Common.{◌≡◌, ℕ, ◌+◌, ◌*◌, ◌≤◌, ◌<◌, length, get_or, take}
use Rattle.std.specs.Prelude.{All}
use Rattle.random_place.specs.Spots.{spot_count}
use Rattle.random_place.proofs.sums.sum_spots.Given as goal

-- the sums of the tiles so far
abbrev pub invariant-loop-tile : goal.invariant-loop-tile
invariant-loop-tile l = record {
  count : l.count ≡ spot_count l.areas (take l.tile l.mesh.tiles);
  bound : l.count ≤ l.tile * 19342813113834066795298816;
  each : length l.ends.items ≡ l.tile;
  ends : (k d : ℕ) → k < l.tile → get_or l.ends.items k d ≡ spot_count l.areas (take (k + 1) l.mesh.tiles);
  few : All (λ end. end < 5192296858534827628530496329220096) l.ends.items;
}
