use Rattle.std.proofs.Common.{◌≡◌, take, map}
use Rattle.nav_ground.specs.FreeCells.{is_blocked}
use Rattle.obstacle_mark.specs.AreasLeft.{area_left}
use Rattle.obstacle_mark.proofs.areas.areas_left.Given as goal

-- the areas under the obstacles so far
abbrev pub invariant-loop-shape : goal.invariant-loop-shape
invariant-loop-shape l = l.areas.items ≡ map (area_left (is_blocked (take l.shape-index l.shapes)) (take l.shape-index l.shapes)) l.cells
