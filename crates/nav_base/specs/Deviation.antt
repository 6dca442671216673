-- How far a point lies from a segment, as a fraction, and the order of fractions.
use Rattle.std.specs.Prelude.{ℕ, pos, ◌*◌, ◌<◌, unsigned_abs, if◌then◌else◌}
use Rattle.std.specs.Int.Signed.{le_z}
use Rattle.nav_base.specs.declared.point.Point.{Point}
use Rattle.nav_base.specs.declared.deviation.Deviation.{Deviation}
use Rattle.nav_base.specs.Point.{from_to, dot_of, cross_of}

-- the square of the length of a vector
abbrev pub square_of : Point → ℕ
square_of v = unsigned_abs (dot_of v v)

-- The deviation of p from the segment from a to b: the squared distance from p to a where p lies at or behind a on the way to b, from p to b where
-- it lies at or beyond b, and otherwise that from p to the line, which is the square of a cross over the segment's squared length.
unfoldable pub deviation_of : Point → Point → Point → Deviation
deviation_of a b p =
    let segment = from_to a b in
    let reached = dot_of segment (from_to a p) in
    let aside = unsigned_abs (cross_of segment (from_to a p)) in
    if le_z reached (pos 0) then record { num = square_of (from_to a p); den = 1 }
    else (if le_z (dot_of segment segment) reached then record { num = square_of (from_to b p); den = 1 }
    else record { num = aside * aside; den = square_of segment })

-- a hundred times the deviation is greater than the error
pub record Exceeds (d : Deviation) (error : ℕ) : Type 0 where
  pub over : error * d.den < 100 * d.num

-- the first fraction is less than the second
pub record IsLess (a b : Deviation) : Type 0 where
  pub less : a.num * b.den < b.num * a.den

-- a fraction has a denominator of at least 1
pub record IsFraction (d : Deviation) : Type 0 where
  pub some : 0 < d.den
