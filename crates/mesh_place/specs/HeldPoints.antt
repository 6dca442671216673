-- HeldPoints: the whole point that a polygon holds that is nearest to a point.
use Rattle.std.specs.Prelude.{◌≡◌, ◌≢◌, ℕ, ◌≤◌, ◌<◌, ℤ, pos}
use Rattle.std.specs.Ordering.{ordering_then, nat_cmp}
use Rattle.std.specs.declared.cmp.Ordering.{Ordering}
use Rattle.std.specs.declared.cmp.Ordering.TheVariants.{Less}
use Rattle.nav_base.specs.declared.point.Point.{Point}
use Rattle.nav_base.specs.Deviation.{square_of}
use Rattle.nav_base.specs.Point.{from_to}
use Rattle.mesh_types.specs.declared.polygon.Polygon.{Polygon}
use Rattle.mesh_types.specs.LinkOrder.{point_cmp}
use Rattle.mesh_types.specs.Located.{Holds}
use Rattle.mesh_place.specs.declared.lines.LineSpan.{LineSpan}
use Rattle.mesh_place.specs.Lines.{IsInSpan}

-- the order of points by how far they are from a point, then by x, then by z
abbrev pub near_cmp : Point → Point → Point → Ordering
near_cmp p a b = ordering_then (nat_cmp (square_of (from_to p a)) (square_of (from_to p b))) (point_cmp a b)

-- the nearest point that a polygon holds: none that it holds comes before it
pub record IsNearestHeld (polygon : Polygon) (p near : Point) : Type 0 where
  pub holds : Holds polygon near
  pub first : (q : Point) → Holds polygon q → near_cmp p q near ≢ Less

-- a coordinate is a place of a span
pub record IsPlaceOf (span : LineSpan) (n : ℤ) : Type 0 where
  pub place : ℕ
  pub is : n ≡ pos place
  pub inside : IsInSpan span place

-- a span reaches across all that a polygon holds
abbrev pub ReachesAcross : Polygon → LineSpan → Type 0
ReachesAcross polygon span = (q : Point) → Holds polygon q → IsPlaceOf span q.x

-- what is found after the lines from one up to before another were looked at: the polygon holds it, it does not come after what was found
-- before, and nothing that the polygon holds on those lines comes before it
pub record IsNearerOver (polygon : Polygon) (p : Point) (first end : ℕ) (old new : Point) : Type 0 where
  pub holds : Holds polygon new
  pub kept : (q : Point) → near_cmp p q old ≢ Less → near_cmp p q new ≢ Less
  pub lines : (q : Point) (z : ℕ) → Holds polygon q → q.z ≡ pos z → first ≤ z → z < end → near_cmp p q new ≢ Less
