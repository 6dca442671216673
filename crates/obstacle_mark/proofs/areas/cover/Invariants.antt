use Rattle.std.proofs.Common.{◌≡◌, ℕ, ◌<◌, ◌≤◌, length, None}
use Rattle.std.specs.Prelude.{slice_index_or}
use Rattle.nav_ground.specs.declared.cell.Cell.{Cell}
use Rattle.obstacle_mark.specs.AreasLeft.{area_after}
use Rattle.obstacle_mark.proofs.areas.cover.Given as goal

-- cells of rows before z are left with what the obstacle leaves them, the others are as before
abbrev pub invariant-loop-z : goal.invariant-loop-z
invariant-loop-z l = record {
  done : (k : ℕ) (d : Cell) → k < length l.cells → (slice_index_or l.cells k d).at.z < l.z
      → slice_index_or l.areas k None ≡ area_after l.shape (slice_index_or l.cells k d) (slice_index_or l.initial.areas k None);
  others : (k : ℕ) (d : Cell) → k < length l.cells → l.z ≤ (slice_index_or l.cells k d).at.z
      → slice_index_or l.areas k None ≡ slice_index_or l.initial.areas k None;
}
