use Rattle.std.proofs.Common.{◌≡◌, ◌+◌, ◌++◌, length, map, take}
use Rattle.nav_base.specs.Convex.{corner_at}
use Rattle.poly_merge.proofs.union.put_points.Given as goal

-- the corners at the places so far
abbrev pub invariant-loop-i : goal.invariant-loop-i
invariant-loop-i l = record {
  taken : take (l.at + l.i) l.points ≡ take l.at l.fn.points ++ map (corner_at l.corners) (take l.i l.places);
  same : length l.points ≡ length l.fn.points;
}
