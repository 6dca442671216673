use Rattle.std.proofs.Common.{◌≡◌, take, map, []}
use Rattle.nav_ground.specs.FreeCells.{is_blocked}
use Rattle.obstacle_mark.specs.AreasLeft.{area_left}
use Rattle.obstacle_mark.proofs.areas.own_areas.Given as goal

-- the areas so far
abbrev pub invariant-loop-cell : goal.invariant-loop-cell
invariant-loop-cell l = l.areas.items ≡ map (area_left (is_blocked []) []) (take l.cell-index l.cells)
