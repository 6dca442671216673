use Rattle.wall_slide.specs.Rows.{span_of}
use Rattle.mesh_place.specs.Lines.{IsPartOf, IsHeldBefore, point_on}
use Rattle.wall_slide.proofs.rows.part_held.Given as goal

-- the part that lies to the right of none of the edges so far
abbrev pub invariant-loop-edge : goal.invariant-loop-edge
invariant-loop-edge l = IsPartOf (λ x. IsHeldBefore l.polygon l.edge (point_on x l.z)) (span_of l.fn.row) (span_of l.part)
