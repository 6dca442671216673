-- Lines: the whole points of a line along x, and those of them that a polygon holds.
use Rattle.std.specs.Prelude.{◌≡◌, ℕ, ◌<◌, ◌≤◌, ◌⊎◌, ℤ, pos, negsuc, suc, ◌-ℤ◌, ◌≤ℤ◌, unsigned_abs, Option, Some, None}
use Rattle.nav_base.specs.declared.point.Point.{Point}
use Rattle.nav_base.specs.Deviation.{square_of}
use Rattle.nav_base.specs.Point.{from_to}
use Rattle.mesh_types.specs.declared.polygon.Polygon.{Polygon}
use Rattle.mesh_types.specs.Rays.{side_of}
use Rattle.mesh_place.specs.declared.lines.LineSpan.{LineSpan}

-- the point with these coordinates, in sixteenths
abbrev pub point_on : ℕ → ℕ → Point
point_on x z = record { x = pos x; z = pos z }

-- a span has a place, and lies in the largest field
pub record IsSpan (span : LineSpan) : Type 0 where
  pub order : span.first ≤ span.last
  pub last : span.last ≤ 16384

-- a place of a span
pub record IsInSpan (span : LineSpan) (x : ℕ) : Type 0 where
  pub first : span.first ≤ x
  pub last : x ≤ span.last

-- the part of a span whose places have a property
pub record IsPartOf (P : ℕ → Type 0) (span part : LineSpan) : Type 0 where
  pub order : part.first ≤ part.last
  pub begins : span.first ≤ part.first
  pub ends : part.last ≤ span.last
  pub are : (x : ℕ) → IsInSpan part x → P x
  pub all : (x : ℕ) → IsInSpan span x → P x → IsInSpan part x

-- the part, if any place has it
abbrev pub IsPartWhere : (ℕ → Type 0) → LineSpan → Option LineSpan → Type 0
IsPartWhere P span None = (x : ℕ) → IsInSpan span x → P x → ⊥
IsPartWhere P span (Some part) = IsPartOf P span part

-- how far a turn goes to the right; 0 for one to the left
abbrev pub right_of : ℤ → ℕ
right_of (pos n) = 0
right_of (negsuc n) = suc n

-- a point lies to the right of none of the edges before one
abbrev pub IsHeldBefore : Polygon → ℕ → Point → Type 0
IsHeldBefore polygon end p = (edge : ℕ) → edge < end → pos 0 ≤ℤ side_of polygon edge p

-- a place that is not another is farther from a coordinate
abbrev pub IsItOrFarther : ℤ → ℕ → ℕ → Type 0
IsItOrFarther n near x = (x ≡ near) ⊎ (unsigned_abs (pos near -ℤ n) < unsigned_abs (pos x -ℤ n))

-- a point than which no other with a property is as near to a point
abbrev pub IsNearestOf : (Point → Type 0) → Point → Point → Type 0
IsNearestOf P p near = (q : Point) → P q → (q ≡ near) ⊎ (square_of (from_to p near) < square_of (from_to p q))
