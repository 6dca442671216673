use Rattle.std.proofs.Common.{take}
use Rattle.std.specs.Prelude.{Contains}
use Rattle.wall_query.specs.Walls.{IsBestOf}
use Rattle.wall_query.proofs.nearest.nearest_of.Given as goal

-- the nearest of the walls so far
abbrev pub invariant-loop-wall : goal.invariant-loop-wall
invariant-loop-wall l = IsBestOf l.mesh l.asked (Contains (take l.wall-index l.walls)) l.best
