use Rattle.std.proofs.Common.{◌≡◌, ◌≤◌, Bool, List, take, map, length}
use Rattle.nav_ground.specs.declared.cell.Cell.{Cell}
use Rattle.nav_ground.specs.declared.shape.Shape.{Shape}
use Rattle.obstacle_mark.specs.AreasLeft.{area_left}
use Rattle.obstacle_mark.specs.Places.{places_taken}
use Rattle.obstacle_mark.proofs.places.blocked_places.Given as goal

-- the places so far, whatever the obstacles are that left the areas
abbrev pub invariant-loop-i : goal.invariant-loop-i
invariant-loop-i l = record {
  few : length l.places.items ≤ l.i;
  places : (taken : Cell → Bool) (shapes : List Shape) → l.areas ≡ map (area_left taken shapes) l.cells → l.places.items ≡ places_taken taken (take l.i l.cells);
}
