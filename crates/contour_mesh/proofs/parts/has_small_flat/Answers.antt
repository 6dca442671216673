use Rattle.std.proofs.Common.{arith}
use Rattle.contour_walk.proofs.Contoured.{few_regions}
use Rattle.contour_mesh.proofs.PartLaws.{parts_stop}
use Rattle.contour_mesh.proofs.parts.has_small_flat.Goals as goal

pub overflow_cast-id-end : goal.overflow_cast-id-end
overflow_cast-id-end c =
    omega (
      arith,
      c.len-id-end.ensures,
      few_regions c.args.source.cells.now c.requires.rim.cells c.args.source.regions.now c.requires.regions,
      c.requires.rim.cells.few,
    )

pub returns-then-found : goal.returns-then-found
returns-then-found c = λ yes.
    parts_stop c.args.source.table.now.window c.args.error c.args.source.cells.now c.args.source.regions.now c.loop-id.id (omega (arith, c.loop-id-test.true, c.len-id-end.ensures))
    (c.in_ok-found.ensures c.if-found.true)
