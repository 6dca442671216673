use Rattle.std.proofs.Common.{◌≤◌, ◌-◌, length}
use Rattle.tile_links.proofs.rim.near_before.Given as goal

-- the place at hand is one of all, and so is the last of those that are tried
abbrev pub invariant-loop-near : goal.invariant-loop-near
invariant-loop-near l = (l.near ≤ length l.places) × (l.end ≤ length l.places)

abbrev pub decreases-loop-near : goal.decreases-loop-near
decreases-loop-near l = l.end - l.near
