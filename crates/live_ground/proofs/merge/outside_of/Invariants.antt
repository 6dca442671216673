use Rattle.std.proofs.Common.{◌≡◌, length, take}
use Rattle.live_ground.specs.Changes.{spans_outside}
use Rattle.live_ground.proofs.merge.outside_of.Given as goal

-- how many of the spans so far stand outside
abbrev pub invariant-loop-i : goal.invariant-loop-i
invariant-loop-i l = l.count ≡ length (spans_outside l.window (take l.i l.spans))
