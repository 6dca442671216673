use Rattle.std.proofs.Common.{arith, ap, ◌∙◌}
use Rattle.std.specs.Prelude.{sum_by}
use Rattle.std.proofs.lemmas.List.{take_all}
use Rattle.std.proofs.lemmas.Slice.Zip.{AllZip-long}
use Rattle.mesh_types.specs.Reaches.{IsReach, cell_count}
use Rattle.mesh_types.proofs.ReachLaws.{counts-next, no-reach, no-storey, reach-at}
use Rattle.mesh_types.proofs.reaches.all_cells.Goals as goal

pub overflow_add-cells : goal.overflow_add-cells
overflow_add-cells c = omega (arith, c.loop-reach.invariant.1)

pub loop-reach-preserved : goal.loop-reach-preserved
loop-reach-preserved c =
    let list = c.args.list.now in
    let i = c.loop-reach.reach-index in
    let long = AllZip-long IsReach list c.args.reaches.now c.requires.reaches in
    let here = reach-at list c.args.reaches.now i no-storey no-reach c.requires.reaches (omega arith) in (
      counts-next cell_count list i no-storey c.loop-reach.cells _ (omega (arith, long)) c.loop-reach.invariant.0 (c.from-cells.ensures ∙ here.cells),
      omega (arith, c.loop-reach.invariant.1),
    )

pub returns : goal.returns
returns c =
    let long = AllZip-long IsReach c.args.list.now c.args.reaches.now c.requires.reaches in
    c.loop-reach.invariant.0 ∙ ap (sum_by cell_count) (take_all c.loop-reach.reach-index c.args.list.now (omega (arith, long)))
