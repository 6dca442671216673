use Rattle.std.proofs.Common.{List, length, ap, subst, ◌∙◌, arith, ℕ}
use Rattle.std.specs.Prelude.{All, sum_by}
use Rattle.mesh_types.specs.declared.storeys.FloorRow.{FloorRow}
use Rattle.mesh_types.specs.Reaches.{IsBetween}
use Rattle.mesh_types.proofs.ReachLaws.{counts-next, few-cells, fits-next, rows-more}
use Rattle.mesh_types.proofs.reaches.storey_reach.Goals as goal

pub overflow_add-cells : goal.overflow_add-cells
overflow_add-cells c =
    let rows = c.as_slice-rows.result.now in
    let fits = fits-next (λ (row : FloorRow). length row.floors) rows c.loop-row.row-index c.row-item.result c.loop-row.cells c.len.result (omega arith) c.row-item.is
    c.loop-row.invariant.cells c.len.ensures in
    omega (
      arith,
      fits,
      few-cells c.args.storey.now c.requires,
      ap (λ (all : List FloorRow). sum_by (λ (row : FloorRow). length row.floors) all) c.as_slice-rows.ensures,
    )

pub loop-row-preserved : goal.loop-row-preserved
loop-row-preserved c =
    let rows = c.as_slice-rows.result.now in
    record {
      cells = counts-next (λ (row : FloorRow). length row.floors) rows c.loop-row.row-index c.row-item.result c.loop-row.cells c.len.result (omega arith)
          c.loop-row.invariant.cells (c.len.ensures ∙ ap (λ (row : FloorRow). length row.floors) c.row-item.is);
      floors = rows-more c.loop-row.floors c.with_row-floors.result rows c.loop-row.row-index c.row-item.result (omega arith) c.row-item.is
          c.with_row-floors.ensures.wider c.loop-row.invariant.floors
          (subst (λ (floors : List ℕ). All (IsBetween c.with_row-floors.result) floors) c.as_slice.ensures c.with_row-floors.ensures.there);
    }
