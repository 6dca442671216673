-- Points as terms of polynomials, so that an equation about sides, crosses and scalar products can be written down as it is read.
use Rattle.std.proofs.Common.{ℕ, ◌+◌, ◌*◌, ℤ, ◌+ℤ◌, List, [], ◌∷◌}
use Rattle.nav_base.specs.declared.point.Point.{Point}
use Rattle.nav_base.proofs.Polynomials.{Term, at, sum, difference, product}

-- a point whose coordinates are terms
pub record Place : Type 0 where
  pub x : Term
  pub z : Term

-- the coordinates of the points, one point after another
abbrev pub coordinates : List Point → List ℤ
coordinates [] = []
coordinates (p ∷ ps) = p.x ∷ p.z ∷ coordinates ps

-- the point at a place of that list
abbrev pub place : ℕ → Place
place k = record { x = at (2 * k); z = at (2 * k + 1) }

abbrev pub from_to_term : Place → Place → Place
from_to_term a b = record { x = difference b.x a.x; z = difference b.z a.z }

-- the point that the vector v leads to from p, which is also the sum of two vectors
abbrev pub moved : Point → Point → Point
moved p v = record { x = p.x +ℤ v.x; z = p.z +ℤ v.z }

abbrev pub moved_term : Place → Place → Place
moved_term p v = record { x = sum p.x v.x; z = sum p.z v.z }

abbrev pub dot_term : Place → Place → Term
dot_term u v = sum (product u.x v.x) (product u.z v.z)

abbrev pub cross_term : Place → Place → Term
cross_term u v = difference (product u.x v.z) (product u.z v.x)

abbrev pub orient_term : Place → Place → Place → Term
orient_term a b c = cross_term (from_to_term a b) (from_to_term a c)
