use Rattle.std.proofs.Common.{map, ap, ◌∙◌}
use Rattle.std.specs.Prelude.{is_some}
use Rattle.std.proofs.lemmas.Result.{IfOk-weaker}
use Rattle.obstacle_mark.proofs.ClearPlaces.{open_where}
use Rattle.obstacle_mark.proofs.free.are_open.Goals as goal

pub returns : goal.returns
returns c =
    IfOk-weaker c.marks_of.result _ _
    (λ marks are. are ∙ ap (map is_some) (c.as_slice.ensures.value ∙ c.in_ok-areas.ensures) ∙ open_where c.args.cells.now c.args.shapes.now) c.marks_of.ensures
