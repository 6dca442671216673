use Rattle.std.proofs.Common.{◌≡◌, rules, w32, ◌∙◌, ap}
use Rattle.std.specs.Prelude.{FitsSigned}
use Rattle.std.proofs.lemmas.Int.{to_z-of_z}
use Rattle.mesh_place.specs.declared.columns.ColumnRange.{ColumnRange}
use Rattle.mesh_place.specs.Columns.{span_under}
use Rattle.mesh_place.specs.Floors.{column_in, nearer_floor}
use Rattle.mesh_place.proofs.Nearer.{one_column}
use Rattle.mesh_place.proofs.floors.nearer_of_row.Goals as goal

pub returns-then-left-right : goal.returns-then-left-right
returns-then-left-right c =
    let row = c.args.row.now in
    let aim = c.args.aim in
    let fits : FitsSigned w32 aim.p.x = search rules in
    let under : c.span_under-under.result ≡ span_under aim.p.x = c.span_under-under.ensures ∙ ap span_under (to_z-of_z w32 aim.p.x fits) in
    one_column row c.args.z aim c.args.best c.column_in-left.result c.column_in-right.result
    (c.column_in-left.ensures.value ∙ ap (λ (s : ColumnRange). column_in row s.first) under)
    (c.column_in-right.ensures.value ∙ ap (λ (s : ColumnRange). column_in row s.last) under)
    c.if-left-right.true
    c.nearer_floor-nearer.result
    (c.nearer_floor-nearer.ensures ∙ ap (nearer_floor aim.y c.args.best) c.cell_floor.ensures)
