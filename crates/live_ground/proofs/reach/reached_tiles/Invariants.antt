use Rattle.std.proofs.Common.{◌≡◌}
use Rattle.std.specs.Prelude.{filter}
use Rattle.std.specs.List.{range_with_len}
use Rattle.live_ground.specs.Changes
use Rattle.live_ground.proofs.reach.reached_tiles.Given as goal

-- the tiles so far that are in reach
abbrev pub invariant-loop-tile : goal.invariant-loop-tile
invariant-loop-tile l = l.reached.items ≡ filter (Changes.is_in_reach l.setting l.window) (range_with_len 0 l.tile)
