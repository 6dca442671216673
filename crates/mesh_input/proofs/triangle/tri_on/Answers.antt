use Rattle.std.proofs.Common.{inl, inr}
use Rattle.mesh_input.proofs.WalkLaws.{finite_triangle, lies_in_field, tri_of}
use Rattle.mesh_input.proofs.triangle.tri_on.Goals as goal
use Rattle.mesh_input.proofs.triangle.tri_on.Goals.{then-is_walkable, else-is_walkable}

pub returns-then-area-gt-MOST_AREA : goal.returns-then-area-gt-MOST_AREA
returns-then-area-gt-MOST_AREA c grid facet is = (finite_triangle grid facet c.args.on.now is, lies_in_field grid facet c.args.on.now is, c.if-area-gt-MOST_AREA.true)

pub returns : goal.returns
returns c grid facet is =
    tri_of grid c.args.slope facet c.args.on.now c.args.area c.if-is_walkable.area c.corner.result c.corner-2.result c.corner-3.result c.off_lines.result is c.if-area-gt-MOST_AREA.false
    (elim c.if-is_walkable.branch [
      | then-is_walkable w ↦ inl (w.if-is_walkable.ensures grid facet is, w.area-is)
      | else-is_walkable w ↦ inr (w.if-is_walkable.ensures grid facet is, w.area-is)
    ])
    c.corner.ensures c.corner-2.ensures c.corner-3.ensures c.off_lines.ensures
