-- Points as vectors, the cross of two vectors, and the side of a walk on which a point lies. The three products are opened by name alone,
-- so that what is proved of them stands on their laws.
use Rattle.std.specs.Prelude.{ℕ, ◌≤◌, ℤ, pos, negsuc, unsigned_abs, ◌+ℤ◌, ◌-ℤ◌, ◌*ℤ◌, ◌≤ℤ◌}
use Rattle.nav_base.specs.declared.point.Point.{Point}

-- a coordinate lies between -65536 and 65536
pub record IsCoordinate (n : ℤ) : Type 0 where
  pub low : negsuc 65535 ≤ℤ n
  pub high : n ≤ℤ pos 65536

-- both parts of the point are coordinates
pub record HasCoordinates (p : Point) : Type 0 where
  pub across : IsCoordinate p.x
  pub along : IsCoordinate p.z

-- the point is a corner of a cell of the field: both parts lie between 0 and 1024
pub record IsCellCorner (p : Point) : Type 0 where
  pub left : pos 0 ≤ℤ p.x
  pub right : p.x ≤ℤ pos 1024
  pub bottom : pos 0 ≤ℤ p.z
  pub top : p.z ≤ℤ pos 1024

-- the point lies in the largest field, between the corners (0, 0) and (1024, 1024), in sixteenths of a cell
pub record IsInField (p : Point) : Type 0 where
  pub left : pos 0 ≤ℤ p.x
  pub right : p.x ≤ℤ pos 16384
  pub bottom : pos 0 ≤ℤ p.z
  pub top : p.z ≤ℤ pos 16384

-- both parts of the vector are at most k, whatever their signs
pub record IsWithin (k : ℕ) (v : Point) : Type 0 where
  pub across : unsigned_abs v.x ≤ k
  pub along : unsigned_abs v.z ≤ k

-- the vector from a to b
abbrev pub from_to : Point → Point → Point
from_to a b = record { x = b.x -ℤ a.x; z = b.z -ℤ a.z }

-- the scalar product of two vectors
unfoldable pub dot_of : Point → Point → ℤ
dot_of u v = u.x *ℤ v.x +ℤ u.z *ℤ v.z

-- the cross of two vectors: positive where v points to the left of u
unfoldable pub cross_of : Point → Point → ℤ
cross_of u v = u.x *ℤ v.z -ℤ u.z *ℤ v.x

-- positive where c lies to the left of the walk from a to b, 0 where it lies on its line
unfoldable pub orient_of : Point → Point → Point → ℤ
orient_of a b c = cross_of (from_to a b) (from_to a c)
