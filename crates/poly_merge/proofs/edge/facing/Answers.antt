use Rattle.std.proofs.Common.{length, sym, ◌∙◌, arith}
use Rattle.mesh_types.specs.Merging.{is_facing}
use Rattle.poly_merge.proofs.Walks.{find-next}
use Rattle.poly_merge.proofs.edge.facing.Goals as goal

pub loop-facing-preserved : goal.loop-facing-preserved
loop-facing-preserved c =
    c.loop-facing.invariant
    ∙ find-next (is_facing c.args.first.now c.args.edge c.args.second.now) (length c.args.second.now) c.loop-facing.facing (omega (arith, c.loop-facing-test.true)) (sym c.if-is_facing.ensures)
