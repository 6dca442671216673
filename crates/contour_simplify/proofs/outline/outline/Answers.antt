use Rattle.std.proofs.Common.{◌∙◌, sym}
use Rattle.mesh_types.specs.declared.region.UnitEdge.{UnitEdge}
use Rattle.mesh_types.specs.Simplified.{begins_among}
use Rattle.contour_simplify.proofs.Outlines.{kept_more, left_more}
use Rattle.contour_simplify.proofs.outline.outline.Goals as goal
use Rattle.contour_simplify.proofs.outline.outline.Goals.{then-is_among+in_ok-push_edge, else-is_among}

pub loop-edge-preserved : goal.loop-edge-preserved
loop-edge-preserved c = elim c.if-is_among.branch [
  | then-is_among+in_ok-push_edge w ↦ record {
    corners = rw (w.corners-is, w.in_ok-push_edge.ensures.corners)
        (kept_more (λ (edge : UnitEdge). edge.from) (begins_among c.args.kept.now) c.args.edges.now c.loop-edge.edge-index _ c.loop-edge.corners.items
        c.loop-edge-test.true c.loop-edge.invariant.corners (sym c.is_among.ensures ∙ w.if-is_among.true));
    codes = rw (w.codes-is, w.in_ok-push_edge.ensures.codes)
        (kept_more (λ (edge : UnitEdge). edge.code) (begins_among c.args.kept.now) c.args.edges.now c.loop-edge.edge-index _ c.loop-edge.codes.items
        c.loop-edge-test.true c.loop-edge.invariant.codes (sym c.is_among.ensures ∙ w.if-is_among.true));
  }
  | else-is_among w ↦ record {
    corners = rw w.corners-is
        (left_more (λ (edge : UnitEdge). edge.from) (begins_among c.args.kept.now) c.args.edges.now c.loop-edge.edge-index _ c.loop-edge.corners.items
        c.loop-edge-test.true c.loop-edge.invariant.corners (sym c.is_among.ensures ∙ w.if-is_among.false));
    codes = rw w.codes-is
        (left_more (λ (edge : UnitEdge). edge.code) (begins_among c.args.kept.now) c.args.edges.now c.loop-edge.edge-index _ c.loop-edge.codes.items
        c.loop-edge-test.true c.loop-edge.invariant.codes (sym c.is_among.ensures ∙ w.if-is_among.false));
  }
]
