use Rattle.std.proofs.Common.{◌≡◌, sym, subst}
use Rattle.nav_base.specs.declared.point.Point.{Point}
use Rattle.mesh_types.specs.Places.{column_gap}
use Rattle.mesh_place.specs.declared.lines.LineSpan.{LineSpan}
use Rattle.mesh_place.specs.Lines.{IsInSpan, IsNearestOf}
use Rattle.mesh_place.proofs.ScanLaws.{over_point, cell_nearest}
use Rattle.mesh_place.proofs.cells.nearest_over.Goals as goal

pub returns-clause-over : goal.returns-clause-over
returns-clause-over c =
    let across = subst (λ (s : LineSpan). IsInSpan s c.nearest_across.result) c.columns_of.ensures.value c.nearest_across.ensures.inside in
    let along = subst (λ (s : LineSpan). IsInSpan s c.nearest_along.result) c.rows_of.ensures.value c.nearest_along.ensures.inside in
    subst (λ (q : Point). 0 ≡ column_gap c.args.cell.x c.args.cell.z q) (sym c.point_on.ensures.value)
    (over_point c.args.cell c.nearest_across.result c.nearest_along.result across along.first along.last)

pub returns-clause-nearest : goal.returns-clause-nearest
returns-clause-nearest c =
    subst (IsNearestOf (λ (q : Point). 0 ≡ column_gap c.args.cell.x c.args.cell.z q) c.args.p) (sym c.point_on.ensures.value)
    (cell_nearest c.args.cell c.args.p c.nearest_across.result c.nearest_along.result
    (λ m in_span. c.nearest_across.ensures.nearest m (subst (λ (s : LineSpan). IsInSpan s m) (sym c.columns_of.ensures.value) in_span))
    (λ m in_span. c.nearest_along.ensures.nearest m (subst (λ (s : LineSpan). IsInSpan s m) (sym c.rows_of.ensures.value) in_span)))
