use Rattle.std.proofs.Common.{◌+◌, arith}
use Rattle.strip_mesh.specs.Indexed.{run_in}
use Rattle.strip_mesh.proofs.Counts.{part_cells, part_first, part_indices, run_length}
use Rattle.strip_mesh.proofs.rim.part_of.Goals as goal

pub between-requires : goal.between-requires
between-requires c =
    let many = run_length c.args.strips.now.free.cells c.run-run.result.now (run_in c.args.strips.now c.args.strip) c.run-run.ensures.cells in
    (omega (arith, c.requires.order), omega (arith, c.requires.inside, many))

pub returns-clause-cells : goal.returns-clause-cells
returns-clause-cells c =
    part_cells c.args.strips.now.free.cells c.run-run.result.now c.between.result.now (run_in c.args.strips.now c.args.strip) c.args.part.first
    (c.args.part.last + 1) c.run-run.ensures.cells c.between.ensures

pub returns-clause-first : goal.returns-clause-first
returns-clause-first c =
    let many = run_length c.args.strips.now.free.cells c.run-run.result.now (run_in c.args.strips.now c.args.strip) c.run-run.ensures.cells in
    part_first c.args.strips.now.free.cells c.run-run.result.now c.between.result.now (run_in c.args.strips.now c.args.strip) c.args.part.first
    (c.args.part.last + 1) c.run-run.ensures.cells c.between.ensures (omega (arith, c.requires.order)) (omega (arith, c.requires.inside, many))

pub returns-clause-indices : goal.returns-clause-indices
returns-clause-indices c =
    let many = run_length c.args.strips.now.free.cells c.run-run.result.now (run_in c.args.strips.now c.args.strip) c.run-run.ensures.cells in
    part_indices c.args.strips.now.free.cells c.run-run.result.now c.between.result.now c.args.part.first (c.args.part.last + 1) c.run-run.ensures.indices
    c.between.ensures (omega (arith, c.requires.order)) (omega (arith, c.requires.inside, many))
