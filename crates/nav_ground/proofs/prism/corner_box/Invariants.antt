use Rattle.std.proofs.Common.{◌≡◌, map, take}
use Rattle.std.specs.Int.{int_min, int_max}
use Rattle.std.specs.List.{fold}
use Rattle.nav_base.specs.declared.point.Point.{Point}
use Rattle.nav_base.specs.Convex.{corner_at}
use Rattle.nav_ground.proofs.prism.corner_box.Given as goal

-- the box of the corners so far
abbrev pub invariant-loop-corner : goal.invariant-loop-corner
invariant-loop-corner l = record {
  left : l.low.x ≡ fold int_min (corner_at l.corners 0).x (map (λ (p : Point). p.x) (take l.corner-index l.corners));
  bottom : l.low.z ≡ fold int_min (corner_at l.corners 0).z (map (λ (p : Point). p.z) (take l.corner-index l.corners));
  right : l.high.x ≡ fold int_max (corner_at l.corners 0).x (map (λ (p : Point). p.x) (take l.corner-index l.corners));
  top : l.high.z ≡ fold int_max (corner_at l.corners 0).z (map (λ (p : Point). p.z) (take l.corner-index l.corners));
}
