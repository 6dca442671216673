use Rattle.std.proofs.Common.{◌≡◌, ◌++◌, take}
use Rattle.mesh_types.specs.Rings.{beginnings}
use Rattle.contour_simplify.proofs.kept.push_corners.Given as goal

abbrev pub invariant-loop-edge : goal.invariant-loop-edge
invariant-loop-edge l = l.corners.items ≡ l.initial.corners.items ++ beginnings (take l.edge-index l.edges)
