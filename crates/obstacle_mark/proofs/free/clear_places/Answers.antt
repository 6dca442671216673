use Rattle.std.proofs.Common.{length, ap, ◌∙◌}
use Rattle.std.proofs.lemmas.List.{length-map}
use Rattle.std.proofs.lemmas.Result.{IfOk-weaker}
use Rattle.nav_ground.specs.FreeCells.{is_unblocked}
use Rattle.obstacle_mark.proofs.ClearPlaces.{clear_where}
use Rattle.obstacle_mark.proofs.free.clear_places.Goals as goal

pub kept-requires-clause-beside : goal.kept-requires-clause-beside
kept-requires-clause-beside c =
    ap length (c.as_slice.ensures.value ∙ c.in_ok-uncovered.ensures) ∙ length-map c.args.wide.now (is_unblocked c.args.shapes.now)

pub returns : goal.returns
returns c =
    IfOk-weaker c.kept.result _ _
    (λ clear are. are ∙ clear_where c.args.wide.now c.args.shapes.now _ c.args.radius c.requires.cells.each (c.as_slice.ensures.value ∙ c.in_ok-uncovered.ensures))
    c.kept.ensures
