use Rattle.std.proofs.Common.{take}
use Rattle.std.specs.Prelude.{Contains}
use Rattle.wall_slide.specs.Ends.{IsNearestEnd}
use Rattle.wall_slide.proofs.slides.nearest_end.Given as goal

-- the nearest end in the polygons so far
abbrev pub invariant-loop-at : goal.invariant-loop-at
invariant-loop-at l = IsNearestEnd l.mesh l.asked (Contains (take l.at-index l.list)) l.best
