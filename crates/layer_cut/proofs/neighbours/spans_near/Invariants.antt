use Rattle.std.proofs.Common.{◌≡◌, take}
use Rattle.nav_ground.specs.Tiling.{widened}
use Rattle.layer_cut.specs.Nearby.{spans_in}
use Rattle.layer_cut.proofs.neighbours.spans_near.Given as goal

-- the spans of the rectangle so far
abbrev pub invariant-loop-i : goal.invariant-loop-i
invariant-loop-i l = l.near.items ≡ spans_in (widened l.window l.margin) (take l.i l.spans)
