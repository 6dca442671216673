use Rattle.std.proofs.Common.{◌≡◌, ◌-◌, List, length, take, drop, filter, ◌∙◌, ap}
use Rattle.std.proofs.lemmas.List.{take_rest}
use Rattle.std.proofs.lemmas.Result.{IfOk-weaker}
use Rattle.nav_ground.specs.declared.cell.Cell.{Cell}
use Rattle.nav_ground.specs.declared.free_layer.CellMark.{CellMark}
use Rattle.nav_ground.specs.CellColumns.{is_in_column}
use Rattle.nav_ground.specs.Marks.{cells_left}
use Rattle.nav_ground.proofs.MarkLaws.{left_column}
use Rattle.nav_ground.proofs.free_layer.MarkedCells.column.Goals as goal

pub returns : goal.returns
returns c =
    let marks = c.as_slice-marks.result.now in
    let cells = c.as_slice-cells.result.now in
    let part = c.part_of-part.result in
    let inside = is_in_column c.args.x c.args.z in
    let value : cells_left marks cells ≡ c.args.self.now =
    ap (λ (ms : List CellMark). cells_left ms cells) c.as_slice-marks.ensures.value
    ∙ ap (cells_left c.self.inside.marks.items) (c.as_slice-cells.ensures ∙ c.get.ensures) ∙ c.self.view_is in
    IfOk-weaker c.left.result _ (λ left. left.items ≡ filter inside c.args.self.now)
    (λ left made. made
    ∙ ap (λ (ms : List CellMark). cells_left (take part.count ms) (take part.count (take (length cells - part.first) (drop part.first cells)))) (take_rest marks part.first)
    ∙ ap (λ (cs : List Cell). cells_left (take part.count (drop part.first marks)) (take part.count cs)) (take_rest cells part.first)
    ∙ left_column c.args.x c.args.z marks cells part c.part_of-part.ensures
    ∙ ap (filter inside) value)
    c.left.ensures
