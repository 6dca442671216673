use Rattle.std.proofs.Common.{map, ap, ◌∙◌}
use Rattle.std.proofs.lemmas.List.{take_all}
use Rattle.tests_mesh.specs.Rows.{cell_of}
use Rattle.tests_mesh.proofs.CellRows.{made_more}
use Rattle.tests_mesh.proofs.cell_rows.free_of.Goals as goal

pub loop-row-preserved : goal.loop-row-preserved
loop-row-preserved c = made_more cell_of c.args.rows.now c.loop-row.row-index _ _ _ _ c.loop-row-test.true c.loop-row.invariant c.cell.ensures c.in_ok-push.ensures.items

pub returns-clause-cells : goal.returns-clause-cells
returns-clause-cells c = c.from_vec.ensures ∙ c.loop-row.invariant ∙ ap (map cell_of) (take_all c.loop-row.row-index c.args.rows.now c.loop-row-test.false)
