use Rattle.std.proofs.Common.{inl, inr, sym, subst}
use Rattle.wall_slide.specs.Facing.{IsFacing}
use Rattle.wall_slide.proofs.facing.facing_edge.Goals as goal

pub loop-edge-preserved : goal.loop-edge-preserved
loop-edge-preserved c =
    elim c.farther_edge-facing.ensures [
      | inl same ↦ subst (IsFacing c.args.polygon.now) (sym same) c.loop-edge.invariant
      | inr same ↦ subst (IsFacing c.args.polygon.now) (sym same) c.edge_toward.ensures
    ]
