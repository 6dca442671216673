use Rattle.std.proofs.Common.{◌≡◌, map, take}
use Rattle.nav_base.specs.declared.point.Point.{Point}
use Rattle.nav_base.specs.Convex.{corner_at}
use Rattle.mesh_types.specs.Extents.{least_of, greatest_of}
use Rattle.mesh_types.proofs.extents.extent.Given as goal

-- the box of the corners so far
abbrev pub invariant-loop-corner : goal.invariant-loop-corner
invariant-loop-corner l = record {
  left : l.low.x ≡ least_of (corner_at l.corners 0).x (map (λ (p : Point). p.x) (take l.corner-index l.corners));
  bottom : l.low.z ≡ least_of (corner_at l.corners 0).z (map (λ (p : Point). p.z) (take l.corner-index l.corners));
  right : l.high.x ≡ greatest_of (corner_at l.corners 0).x (map (λ (p : Point). p.x) (take l.corner-index l.corners));
  top : l.high.z ≡ greatest_of (corner_at l.corners 0).z (map (λ (p : Point). p.z) (take l.corner-index l.corners));
}
