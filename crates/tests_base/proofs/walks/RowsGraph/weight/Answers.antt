use Rattle.std.proofs.Common.{[], ◌∙◌}
use Rattle.tests_base.proofs.RowGraphs.{row-there, row-weight}
use Rattle.tests_base.proofs.walks.RowsGraph.weight.Goals as goal

pub weight_in-requires : goal.weight_in-requires
weight_in-requires c = row-there c.args.self.now.rows.now c.args.step c.in-Some.row.now (c.in-Some.ensures.lookup.3.1 []) c.requires.place

pub returns-in-Some : goal.returns-in-Some
returns-in-Some c =
    c.weight_in.ensures ∙ row-weight c.args.self.now.rows.now c.args.step c.in-Some.row.now (c.in-Some.ensures.lookup.3.1 []) c.requires.place
