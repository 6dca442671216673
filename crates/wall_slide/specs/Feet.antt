-- Feet: the point of a polygon that is nearest to a motion's target, no farther from its start than the target is.
use Rattle.std.specs.Prelude.{◌≡◌, ℕ, ◌≤◌, ◌⊎◌, ℤ}
use Rattle.nav_base.specs.declared.point.Point.{Point}
use Rattle.nav_base.specs.Deviation.{square_of}
use Rattle.nav_base.specs.Point.{HasCoordinates, from_to}
use Rattle.mesh_types.specs.declared.polygon.Polygon.{Polygon}
use Rattle.mesh_types.specs.Located.{Holds}
use Rattle.wall_slide.specs.declared.discs.Motion.{Motion}
use Rattle.wall_slide.specs.Rows.{IsWithin}

-- a point that a polygon holds and a motion may end at
pub record IsFoot (polygon : Polygon) (motion : Motion) (p : Point) : Type 0 where
  pub holds : Holds polygon p
  pub within : IsWithin motion p

-- how far a point is from a motion's target, squared
abbrev pub far_from : Motion → Point → ℕ
far_from motion p = square_of (from_to motion.to p)

-- what is found after some points were looked at: what was found before or such a point, no farther from the target than before, and no such
-- point of those is nearer
pub record IsNearer (polygon : Polygon) (motion : Motion) (old new : Point) (among : Point → Type 0) : Type 0 where
  pub coordinates : HasCoordinates new
  pub either : (new ≡ old) ⊎ IsFoot polygon motion new
  pub kept : far_from motion new ≤ far_from motion old
  pub all : (q : Point) → IsFoot polygon motion q → among q → far_from motion new ≤ far_from motion q

-- the points of a row, and all points
abbrev pub IsOnRow : ℤ → Point → Type 0
IsOnRow z q = q.z ≡ z

abbrev pub IsAnywhere : Point → Type 0
IsAnywhere q = Unit {0}

-- of two points one that is no farther from the target than either
pub record IsNearerOf (motion : Motion) (a b result : Point) : Type 0 where
  pub either : (result ≡ a) ⊎ (result ≡ b)
  pub first : far_from motion result ≤ far_from motion a
  pub second : far_from motion result ≤ far_from motion b
