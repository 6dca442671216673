use Rattle.std.proofs.Common.{◌≡◌, take}
use Rattle.nav_ground.specs.Touching.{touching_shapes}
use Rattle.build_queue.proofs.reach.touching_list.Given as goal

-- of the shapes so far those that touch the tile
abbrev pub invariant-loop-shape : goal.invariant-loop-shape
invariant-loop-shape l = l.list.items ≡ touching_shapes l.setting l.tile (take l.shape-index l.shapes)
