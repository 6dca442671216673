use Rattle.mesh_place.specs.Lines.{IsPartOf, IsHeldBefore, point_on}
use Rattle.mesh_place.proofs.lines.held_part.Given as goal

-- the part that lies to the right of none of the edges so far
abbrev pub invariant-loop-edge : goal.invariant-loop-edge
invariant-loop-edge l = IsPartOf (λ x. IsHeldBefore l.polygon l.edge (point_on x l.z)) l.fn.span l.part
