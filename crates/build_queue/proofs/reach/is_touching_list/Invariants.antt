use Rattle.std.proofs.Common.{◌≡◌, ◌≤◌, drop, length}
use Rattle.nav_ground.specs.Touching.{touching_shapes}
use Rattle.build_queue.specs.SameShapes.{are_same}
use Rattle.build_queue.proofs.reach.is_touching_list.Given as goal

-- what is left of the list and of the shapes decides
abbrev pub invariant-loop-shape : goal.invariant-loop-shape
invariant-loop-shape l = record {
  within : l.place ≤ length l.list;
  rest : are_same (drop l.place l.list) (touching_shapes l.setting l.tile (drop l.shape-index l.shapes)) ≡ are_same l.list (touching_shapes l.setting l.tile l.shapes);
}
