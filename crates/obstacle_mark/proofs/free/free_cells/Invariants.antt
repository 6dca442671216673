use Rattle.std.proofs.Common.{◌≡◌, ℕ, ◌<◌, ◌≤◌, Bool, List, length, take, map}
use Rattle.std.specs.Prelude.{not, slice_index_or}
use Rattle.std.specs.List.{filter}
use Rattle.nav_ground.specs.declared.cell.Cell.{Cell}
use Rattle.nav_ground.specs.declared.shape.Shape.{Shape}
use Rattle.nav_ground.specs.FreeCells.{free_cell_of}
use Rattle.obstacle_mark.specs.AreasLeft.{area_left}
use Rattle.obstacle_mark.specs.Places.{places_taken, ArePassed}
use Rattle.obstacle_mark.proofs.free.free_cells.Given as goal

-- the free cells so far, and what the cells to come have passed
abbrev pub invariant-loop-i : goal.invariant-loop-i
invariant-loop-i l = record {
  free : (taken : Cell → Bool) (shapes : List Shape) → l.areas ≡ map (area_left taken shapes) l.cells → l.blocked ≡ places_taken taken l.cells
      → l.free.items ≡ map (free_cell_of taken l.cells shapes) (filter (λ (cell : Cell). not (taken cell)) (take l.i l.cells));
  passed : (j : ℕ) (d : Cell) → l.i ≤ j → j < length l.cells → ArePassed l.blocked l.passed (slice_index_or l.cells j d).at;
}
