use Rattle.std.proofs.Common.{◌≡◌, ◌++◌}
use Rattle.std.specs.Vec.Iter.{into_iter_items}
use Rattle.layer_cut.proofs.tile_layers.closed.Given as goal

-- the closed layers and those to come are all
abbrev pub invariant-loop-layer : goal.invariant-loop-layer
invariant-loop-layer l = l.layers.items ++ into_iter_items l.layer-iterator ≡ l.fn.open.items
