use Rattle.std.proofs.Common.{◌++◌, ◌∙◌, List, ap}
use Rattle.mesh_types.specs.declared.region.UnitEdge.{UnitEdge}
use Rattle.contour_walk.specs.Walk.{edge_at, round}
use Rattle.contour_walk.proofs.round.walk.Goals as goal

pub returns : goal.returns
returns c =
    c.in_ok-push_round.ensures
    ∙ ap (λ (es : List UnitEdge). es ++ round (edge_at c.args.rim.table.now.window c.args.rim.cells.now c.args.rim.regions.now) c.args.strips.now) c.in_ok-edges.ensures.items
