use Rattle.std.proofs.Common.{◌∙◌, List, ap, ◌++◌}
use Rattle.std.proofs.lemmas.List.{take_all}
use Rattle.mesh_types.specs.declared.region.UnitEdge.{UnitEdge}
use Rattle.mesh_types.specs.Rings.{beginnings}
use Rattle.contour_simplify.proofs.kept.push_corners.Goals as goal

pub returns : goal.returns
returns c =
    c.loop-edge.invariant
    ∙ ap (λ (es : List UnitEdge). c.args.corners.now.items ++ beginnings es) (take_all c.loop-edge.edge-index c.args.edges.now c.loop-edge-test.false)
