use Rattle.std.proofs.Common.{◌≡◌, ◌∙◌, ap, take, filter}
use Rattle.std.proofs.lemmas.List.{take_rest}
use Rattle.std.proofs.lemmas.Result.{IfOk-weaker}
use Rattle.nav_ground.specs.CellColumns.{is_in_column}
use Rattle.nav_ground.proofs.ColumnParts.{part_is}
use Rattle.nav_ground.proofs.cell.column.Goals as goal

pub returns : goal.returns
returns c =
    let part = c.part_of-part.result in
    IfOk-weaker c.from_slice.result _ (λ column. column.items ≡ filter (is_in_column c.args.x c.args.z) c.args.cells.now)
    (λ column made. made ∙ ap (take part.count) (take_rest c.args.cells.now part.first)
    ∙ part_is c.args.x c.args.z c.args.cells.now part c.part_of-part.ensures)
    c.from_slice.ensures.items
