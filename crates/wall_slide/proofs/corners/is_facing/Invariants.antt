use Rattle.std.proofs.Common.{ℕ, ◌<◌, pos, ◌≤ℤ◌}
use Rattle.nav_base.specs.Point.{orient_of}
use Rattle.mesh_types.specs.Portals.{edge_begin}
use Rattle.wall_slide.proofs.corners.is_facing.Given as goal

-- the corners so far lie to the left of the line, or on it
abbrev pub invariant-loop-at : goal.invariant-loop-at
invariant-loop-at l = (k : ℕ) → k < l.at → pos 0 ≤ℤ orient_of l.line.begin l.line.end (edge_begin l.polygon k)
