use Rattle.wall_slide.specs.Facing.{IsFacing}
use Rattle.wall_slide.proofs.facing.facing_edge.Given as goal

-- the edge is one of the polygon's
abbrev pub invariant-loop-edge : goal.invariant-loop-edge
invariant-loop-edge l = IsFacing l.polygon l.facing
