use Rattle.agent_erode.proofs.RunLaws.{ends_rise, run_between}
use Rattle.agent_erode.proofs.windows.run_of.Goals as goal

pub returns-clause-within : goal.returns-clause-within
returns-clause-within c = record {
  order = ends_rise c.args.cells.now c.args.row c.args.first c.args.end c.cells_before.result c.cells_before-2.result
      c.requires.ends c.cells_before.ensures.most c.cells_before.ensures.parted c.cells_before-2.ensures.parted;
  within = c.cells_before-2.ensures.most;
}

pub returns-clause-cells : goal.returns-clause-cells
returns-clause-cells c =
    run_between c.args.cells.now c.args.row c.args.first c.args.end c.cells_before.result c.cells_before-2.result
    c.requires.ends c.cells_before.ensures.most c.cells_before-2.ensures.most c.cells_before.ensures.parted c.cells_before-2.ensures.parted
