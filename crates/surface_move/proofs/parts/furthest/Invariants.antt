use Rattle.std.proofs.Common.{◌-◌, length}
use Rattle.surface_move.specs.Ways.{HoldsNearFrom, IsGreatest}
use Rattle.surface_move.proofs.parts.furthest.Given as goal

-- the most steps after which one of the polygons so far, the last ones, holds a near point
abbrev pub invariant-loop-later : goal.invariant-loop-later
invariant-loop-later l = IsGreatest (HoldsNearFrom l.mesh l.polys l.way.from l.way.to (length l.polys - l.later)) 0 l.rest l.gone
