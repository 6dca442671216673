use Rattle.std.proofs.Common.{ℕ, ◌<◌, ◌≤◌, length}
use Rattle.std.specs.Prelude.{slice_index_or}
use Rattle.nav_ground.specs.declared.cell.Cell.{Cell}
use Rattle.compact_layer.specs.Stacks.{ArePassed}
use Rattle.compact_layer.proofs.Alike.{AreConnected}
use Rattle.compact_layer.proofs.sweep.connect.Given as goal

-- the cells so far are connected, and what is passed is passed for each cell to come
abbrev pub invariant-loop-i : goal.invariant-loop-i
invariant-loop-i l = record {
  connected : AreConnected l.agent l.fn.cells l.i l.cells;
  passed : (j : ℕ) (d : Cell) → l.i ≤ j → j < length l.fn.cells → ArePassed l.fn.cells l.agent.height l.passed (slice_index_or l.fn.cells j d);
}
