-- How large differences, scalar products, crosses and sides can become.
use Rattle.std.proofs.Common.{ℕ, ◌+◌, ◌*◌, ◌^◌, ◌≤◌, ℤ, ◌+ℤ◌, ◌-ℤ◌, ◌*ℤ◌, arith}
use Rattle.std.specs.Prelude.{unsigned_abs}
use Rattle.std.proofs.lemmas.Int.{ints, unsigned_abs-mul}
use Rattle.std.proofs.lemmas.Nat.{mul-le}
use Rattle.nav_base.specs.declared.point.Point.{Point}
use Rattle.nav_base.specs.Point.{HasCoordinates, IsCellCorner, IsInField, IsWithin, from_to, dot_of, cross_of, orient_of}

-- a corner of a cell has coordinates
pub HasCoordinates-corner : (p : Point) → IsCellCorner p → HasCoordinates p
HasCoordinates-corner p at = record { across = record { low = omega (arith, ints); high = omega (arith, ints) }; along = record { low = omega (arith, ints); high = omega (arith, ints) } }

-- so has a point of the field
pub HasCoordinates-field : (p : Point) → IsInField p → HasCoordinates p
HasCoordinates-field p at = record { across = record { low = omega (arith, ints); high = omega (arith, ints) }; along = record { low = omega (arith, ints); high = omega (arith, ints) } }

-- two points of the field lie at most 16384 apart either way
pub from_to-field : (a b : Point) → IsInField a → IsInField b → IsWithin 16384 (from_to a b)
from_to-field a b p q = record { across = omega (arith, ints); along = omega (arith, ints) }

-- two corners of cells lie at most 1024 apart either way
pub from_to-corners : (a b : Point) → IsCellCorner a → IsCellCorner b → IsWithin 1024 (from_to a b)
from_to-corners a b p q = record { across = omega (arith, ints); along = omega (arith, ints) }

-- two points lie at most 2 ^ 17 apart either way
pub from_to-coordinates : (a b : Point) → HasCoordinates a → HasCoordinates b → IsWithin (2 ^ 17) (from_to a b)
from_to-coordinates a b p q = record { across = omega (arith, ints); along = omega (arith, ints) }

-- a sum and a difference are no farther from zero than both numbers together
pub unsigned_abs-+ℤ : (m n : ℤ) → unsigned_abs (m +ℤ n) ≤ unsigned_abs m + unsigned_abs n
unsigned_abs-+ℤ m n = omega (arith, ints)

pub unsigned_abs--ℤ : (m n : ℤ) → unsigned_abs (m -ℤ n) ≤ unsigned_abs m + unsigned_abs n
unsigned_abs--ℤ m n = omega (arith, ints)

product_bound : (k : ℕ) (m n : ℤ) → unsigned_abs m ≤ k → unsigned_abs n ≤ k → unsigned_abs (m *ℤ n) ≤ k * k
product_bound k m n p q = rw (unsigned_abs-mul m n) (mul-le (unsigned_abs m) (unsigned_abs n) k k p q)

-- the scalar product of two vectors of which no part is above k
pub dot_of-bound : (k : ℕ) (u v : Point) → IsWithin k u → IsWithin k v → unsigned_abs (dot_of u v) ≤ 2 * (k * k)
unfolding dot_of
dot_of-bound k u v p q = omega (arith, unsigned_abs-+ℤ (u.x *ℤ v.x) (u.z *ℤ v.z), product_bound k u.x v.x p.across q.across, product_bound k u.z v.z p.along q.along)

-- their cross
pub cross_of-bound : (k : ℕ) (u v : Point) → IsWithin k u → IsWithin k v → unsigned_abs (cross_of u v) ≤ 2 * (k * k)
unfolding cross_of
cross_of-bound k u v p q = omega (arith, unsigned_abs--ℤ (u.x *ℤ v.z) (u.z *ℤ v.x), product_bound k u.x v.z p.across q.along, product_bound k u.z v.x p.along q.across)

-- the side of a walk on which a point lies is a number of at most 2 ^ 35, whatever its sign
pub orient_of-bound : (a b c : Point) → HasCoordinates a → HasCoordinates b → HasCoordinates c → unsigned_abs (orient_of a b c) ≤ 2 ^ 35
unfolding orient_of
orient_of-bound a b c p q r = cross_of-bound (2 ^ 17) (from_to a b) (from_to a c) (from_to-coordinates a b p q) (from_to-coordinates a c p r)

-- among the corners of cells it is at most 2 ^ 21
pub orient_of-corners_bound : (a b c : Point) → IsCellCorner a → IsCellCorner b → IsCellCorner c → unsigned_abs (orient_of a b c) ≤ 2 ^ 21
unfolding orient_of
orient_of-corners_bound a b c p q r = cross_of-bound 1024 (from_to a b) (from_to a c) (from_to-corners a b p q) (from_to-corners a c p r)
