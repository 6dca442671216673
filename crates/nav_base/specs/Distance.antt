-- The distance between two points.
use Rattle.std.specs.Prelude.{ℕ}
use Rattle.nav_base.specs.declared.point.Point.{Point}
use Rattle.nav_base.specs.Point.{from_to}
use Rattle.nav_base.specs.Deviation.{square_of}
use Rattle.nav_base.specs.Root.{ceil_sqrt_of}

-- the distance between two points, rounded up
abbrev pub distance_of : Point → Point → ℕ
distance_of a b = ceil_sqrt_of (square_of (from_to a b))
