use Rattle.std.proofs.Common.{◌≡◌, map}
use Rattle.std.specs.List.{range_with_len}
use Rattle.nav_ground.specs.Layers.{layer_of}
use Rattle.live_ground.proofs.ground.changed_ground.Given as goal

-- the layers so far
abbrev pub invariant-loop-tile : goal.invariant-loop-tile
invariant-loop-tile l = l.layers.items ≡ map (layer_of l.old.setting l.field) (range_with_len 0 l.tile)
