use Rattle.std.proofs.Common.{rules, sym, subst}
use Rattle.std.specs.Prelude.{None, pos, ◌≤ℤ◌}
use Rattle.nav_base.specs.declared.point.Point.{Point}
use Rattle.nav_base.specs.Point.{orient_of}
use Rattle.mesh_types.specs.Located.{Holds}
use Rattle.mesh_types.specs.Portals.{edge_end}
use Rattle.wall_slide.specs.Rows.{IsRowPart, span_of}
use Rattle.mesh_place.specs.Lines.{IsPartOf, IsPartWhere, point_on}
use Rattle.wall_slide.proofs.LineParts.{next_edge, no_part}
use Rattle.wall_slide.proofs.rows.part_held.Goals as goal

pub returns-in_err-part : goal.returns-in_err-part
returns-in_err-part c =
    let polygon = c.args.polygon.now in
    let edge = c.loop-edge.edge in
    let beside = subst (λ (b : Point). IsPartWhere (λ x. pos 0 ≤ℤ orient_of b (edge_end polygon edge) (point_on x c.args.z)) (span_of c.loop-edge.part) None)
    c.edge_ends.ensures.begins
    (subst (λ (e : Point). IsPartWhere (λ x. pos 0 ≤ℤ orient_of c.edge_ends.result.0 e (point_on x c.args.z)) (span_of c.loop-edge.part) None)
    c.edge_ends.ensures.ends c.in_err-part.ensures) in
    subst (IsRowPart (λ x. Holds polygon (point_on x c.args.z)) c.args.row) (sym c.from_residual.ensures)
    (no_part polygon c.args.z (span_of c.args.row) (span_of c.loop-edge.part) edge c.loop-edge.invariant (search rules) beside)

pub loop-edge-preserved : goal.loop-edge-preserved
loop-edge-preserved c =
    let polygon = c.args.polygon.now in
    let edge = c.loop-edge.edge in
    let beside = subst (λ (b : Point). IsPartOf (λ x. pos 0 ≤ℤ orient_of b (edge_end polygon edge) (point_on x c.args.z)) (span_of c.loop-edge.part) (span_of c.in_ok-part.part))
    c.edge_ends.ensures.begins
    (subst (λ (e : Point). IsPartOf (λ x. pos 0 ≤ℤ orient_of c.edge_ends.result.0 e (point_on x c.args.z)) (span_of c.loop-edge.part) (span_of c.in_ok-part.part))
    c.edge_ends.ensures.ends c.in_ok-part.ensures) in
    next_edge polygon c.args.z (span_of c.args.row) (span_of c.loop-edge.part) edge c.loop-edge.invariant (span_of c.in_ok-part.part) beside
