use Rattle.std.proofs.Common.{take}
use Rattle.std.specs.Prelude.{All}
use Rattle.nav_ground.specs.Prisms.{IsNearPoint}
use Rattle.nav_ground.proofs.prism.are_near.Given as goal

-- the corners so far
abbrev pub invariant-loop-corner : goal.invariant-loop-corner
invariant-loop-corner l = All IsNearPoint (take l.corner-index l.corners)
