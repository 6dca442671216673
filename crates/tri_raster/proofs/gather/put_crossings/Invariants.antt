use Rattle.std.proofs.Common.{◌≡◌, ◌+◌, ◌-◌, ◌≤◌, length, min}
use Rattle.tri_raster.specs.Bounds.{put_at}
use Rattle.tri_raster.proofs.Crossed.{AreWidenedUpTo}
use Rattle.tri_raster.proofs.gather.put_crossings.Given as goal

-- the lines so far, as if the height at the last of them were put into the column right of it too
abbrev pub invariant-loop-line : goal.invariant-loop-line
invariant-loop-line l = record {
  after : l.left.column + 2 ≤ l.line;
  until : l.line ≤ l.end;
  end : l.end ≡ min l.right.end (length l.bounds + 1);
  widened : AreWidenedUpTo l.left l.right l.line l.fn.bounds (put_at l.bounds (l.line - 1) l.low l.high);
}
