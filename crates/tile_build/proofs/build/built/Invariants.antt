use Rattle.std.proofs.Common.{◌≡◌, ◌+◌, take}
use Rattle.tile_build.specs.Meshes.{tiles_of}
use Rattle.tile_build.proofs.build.built.Given as goal

-- the layers so far are built, with a step each
abbrev pub invariant-loop-layer : goal.invariant-loop-layer
invariant-loop-layer g l = record {
  tiles : l.tiles.items ≡ tiles_of l.setting l.shapes (take l.layer-index l.layers);
  steps : l.steps ≡ l.fn.steps + l.layer-index;
}
