-- Vectors of the code, as the definitions over points see them.
use Rattle.nav_base.specs.declared.point.Point.{Point}
use Rattle.nav_base.specs.declared.orientation.Vector.{Vector}
use Rattle.nav_base.specs.Reach.{IsWithinReach}

-- both parts are small enough for products
pub record IsReach (v : Vector) : Type 0 where
  pub across : IsWithinReach v.x
  pub along : IsWithinReach v.z

-- the vector with the parts of this one
abbrev pub vector_of : Point → Vector
vector_of p = record { x = p.x; z = p.z }

-- and the other way round
abbrev pub point_of : Vector → Point
point_of v = record { x = v.x; z = v.z }
