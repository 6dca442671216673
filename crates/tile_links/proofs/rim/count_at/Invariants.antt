use Rattle.std.proofs.Common.{◌≡◌, ◌+◌, ◌-◌, ◌≤◌, drop, length}
use Rattle.std.specs.List.{prefix_len}
use Rattle.tile_links.specs.RimPlaces.{is_at_place}
use Rattle.tile_links.proofs.rim.count_at.Given as goal

-- the places so far have the position and the level, and those that are left make up the count
abbrev pub invariant-loop-count : goal.invariant-loop-count
invariant-loop-count l = record {
  within : l.count ≤ length l.places;
  same : l.count + prefix_len (is_at_place l.position l.level) (drop l.count l.places) ≡ prefix_len (is_at_place l.position l.level) l.places;
}

abbrev pub decreases-loop-count : goal.decreases-loop-count
decreases-loop-count l = length l.places - l.count
