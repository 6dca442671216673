use Rattle.std.proofs.Common.{◌≡◌, ℕ, ◌-◌, ◌<◌, ◌≤◌, length, None, false}
use Rattle.std.specs.Prelude.{slice_index_or}
use Rattle.nav_ground.specs.declared.cell.Cell.{Cell}
use Rattle.obstacle_mark.specs.AreasLeft.{area_after}
use Rattle.obstacle_mark.specs.Columns.{is_before, IsInRow}
use Rattle.obstacle_mark.proofs.areas.cover_row.Given as goal

-- of the cells before i those of the row are left with what the obstacle leaves them, the others are as before
abbrev pub invariant-loop-i : goal.invariant-loop-i
invariant-loop-i l = record {
  most : l.i ≤ length l.cells;
  inside : (k : ℕ) (d : Cell) → k < l.i → IsInRow l.reach.first_x l.reach.end_x l.z (slice_index_or l.cells k d).at
      → slice_index_or l.areas k None ≡ area_after l.shape (slice_index_or l.cells k d) (slice_index_or l.initial.areas k None);
  outside : (k : ℕ) (d : Cell) → k < l.i → (IsInRow l.reach.first_x l.reach.end_x l.z (slice_index_or l.cells k d).at → ⊥)
      → slice_index_or l.areas k None ≡ slice_index_or l.initial.areas k None;
  others : (k : ℕ) → l.i ≤ k → slice_index_or l.areas k None ≡ slice_index_or l.initial.areas k None;
  reached : (k : ℕ) (d : Cell) → l.i ≤ k → k < length l.cells → is_before l.reach.first_x l.z (slice_index_or l.cells k d).at ≡ false;
}

abbrev pub decreases-loop-i : goal.decreases-loop-i
decreases-loop-i l = length l.cells - l.i
