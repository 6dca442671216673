use Rattle.std.proofs.Common.{◌-ℤ◌}
use Rattle.std.specs.Prelude.{unsigned_abs}
use Rattle.wall_query.specs.Parts.{far_on}
use Rattle.wall_query.proofs.WallLaws.{IsGoing}
use Rattle.wall_query.proofs.walls.push_edge.Given as goal

-- the walls that begin before a point were appended
abbrev pub invariant-loop-portal : goal.invariant-loop-portal
invariant-loop-portal l = IsGoing l.mesh l.around l.edge l.initial.walls.items l.walls.items l.from

-- how much of the edge is left
abbrev pub decreases-loop-portal : goal.decreases-loop-portal
decreases-loop-portal l = unsigned_abs (far_on l.edge l.edge.end -ℤ far_on l.edge l.from)
