use Rattle.std.proofs.Common.{◌≡◌, ◌-◌, ◌<◌, ◌≤◌, length, take, false}
use Rattle.std.specs.Prelude.{slice_index_or}
use Rattle.nav_ground.specs.declared.cell.CellRef.{CellRef}
use Rattle.cell_table.specs.Columns.{column_of}
use Rattle.obstacle_mark.specs.Places.{is_there}
use Rattle.obstacle_mark.proofs.places.is_there.Given as goal

-- none of those looked at is the one that is sought, and the next does not lie before the column
abbrev pub invariant-loop-i : goal.invariant-loop-i
invariant-loop-i l = record {
  most : l.i ≤ length l.places;
  none : is_there l.column l.level (take l.i l.places) ≡ false;
  next : (d : CellRef) → l.i < length l.places → l.column ≤ column_of (slice_index_or l.places l.i d);
}

abbrev pub decreases-loop-i : goal.decreases-loop-i
decreases-loop-i l = length l.places - l.i
