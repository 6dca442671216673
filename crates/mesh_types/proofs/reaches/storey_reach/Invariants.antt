use Rattle.std.proofs.Common.{◌≡◌, length, take}
use Rattle.std.specs.Prelude.{All, sum_by}
use Rattle.mesh_types.specs.declared.storeys.FloorRow.{FloorRow}
use Rattle.mesh_types.specs.Reaches.{IsRowBetween}
use Rattle.mesh_types.proofs.reaches.storey_reach.Given as goal

-- the cells of the rows so far, and a reach of their floors
abbrev pub invariant-loop-row : goal.invariant-loop-row
invariant-loop-row l = record {
  cells : l.cells ≡ sum_by (λ (row : FloorRow). length row.floors) (take l.row-index l.rows);
  floors : All (IsRowBetween l.floors) (take l.row-index l.rows);
}
