use Rattle.std.proofs.Common.{◌≡◌, ℕ, ◌<◌, ◌≤◌, length, None}
use Rattle.std.specs.Prelude.{slice_index_or}
use Rattle.nav_ground.specs.declared.cell.Cell.{Cell}
use Rattle.cell_table.specs.Columns.{column_of}
use Rattle.obstacle_mark.specs.Columns.{IsPassed}
use Rattle.obstacle_mark.specs.Near.{area_near}
use Rattle.obstacle_mark.proofs.near.leave_near.Given as goal

-- what the cells to come have passed; the cells before i are left with what they are to be left with, the others with what they were
abbrev pub invariant-loop-i : goal.invariant-loop-i
invariant-loop-i l = record {
  passed : (j : ℕ) (d : Cell) → l.i ≤ j → j < length l.cells → IsPassed l.clear l.passed (column_of (slice_index_or l.cells j d).at);
  done : (k : ℕ) (d : Cell) → k < l.i
      → slice_index_or l.areas k None ≡ area_near l.around.window l.around.radius l.clear (slice_index_or l.cells k d) (slice_index_or l.initial.areas k None);
  others : (k : ℕ) → l.i ≤ k → slice_index_or l.areas k None ≡ slice_index_or l.initial.areas k None;
}
