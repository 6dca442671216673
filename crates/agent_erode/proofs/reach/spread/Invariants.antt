use Rattle.std.proofs.Common.{◌≡◌, ◌-◌, ◌≤◌}
use Rattle.cell_table.specs.Table.{neighbour_table}
use Rattle.agent_erode.proofs.Stages.{IsSpread}
use Rattle.agent_erode.proofs.reach.spread.Given as goal

-- the walks that cost less than the cost are done
abbrev pub invariant-loop-cost : goal.invariant-loop-cost
invariant-loop-cost l = record {
  some : 1 ≤ l.cost;
  most : l.cost ≤ l.bound;
  table : l.table ≡ neighbour_table l.fn.cells;
  spread : IsSpread l.fn.cells l.reached l.first l.second l.third l.cost;
}

abbrev pub decreases-loop-cost : goal.decreases-loop-cost
decreases-loop-cost l = l.bound - l.cost
