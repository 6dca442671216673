use Rattle.std.proofs.Common.{◌+◌, ◌++◌, ◌∙◌, List, ap}
use Rattle.std.proofs.lemmas.List.{append_assoc}
use Rattle.std.proofs.lemmas.Result.{on_ok_weaker}
use Rattle.mesh_types.specs.declared.region.UnitEdge.{UnitEdge}
use Rattle.mesh_types.specs.declared.region.Strip.{Strip}
use Rattle.contour_walk.specs.Walk.{bottoms, edge_at, tops}
use Rattle.contour_walk.proofs.sides.push_to_right_end.Goals as goal

pub returns : goal.returns
returns c =
    let edge = edge_at c.args.rim.table.now.window c.args.rim.cells.now c.args.rim.regions.now in
    let lower : Strip = c.args.lower.now in
    let upper : Strip = c.args.upper.now in
    let over_bottom : List UnitEdge = bottoms edge upper (lower.x1 + 1) (upper.x1 + 1) in
    on_ok_weaker c.push_bottoms.result
    (λ is. is ∙ ap (λ es. es ++ over_bottom) c.in_ok-push_tops.ensures
    ∙ append_assoc c.args.edges.now.items (tops edge lower (upper.x1 + 1) (lower.x1 + 1)) over_bottom)
    c.push_bottoms.ensures
