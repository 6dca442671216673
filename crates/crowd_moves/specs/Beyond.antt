-- Beyond: two that go straight and evenly for one step keep a distance all the while.
use Rattle.std.specs.Prelude.{ℕ, ◌*◌, ◌<◌, ◌≤◌, ℤ, pos, ◌+ℤ◌, ◌*ℤ◌, ◌≤ℤ◌}
use Rattle.nav_base.specs.declared.point.Point.{Point}
use Rattle.nav_base.specs.Deviation.{square_of}

-- where one is, times den, that begins at a place and has gone num / den of a way
abbrev pub place_along : Point → Point → ℕ → ℕ → Point
place_along place way num den = record { x = pos den *ℤ place.x +ℤ pos num *ℤ way.x; z = pos den *ℤ place.z +ℤ pos num *ℤ way.z }

-- at every fraction num / den of a step the square of the distance is no less than a number; all is times den, to stay whole
abbrev pub KeepsBeyond : ℕ → Point → Point → Type 0
KeepsBeyond gap place way = (num den : ℕ) → 0 < den → num ≤ den → gap * (den * den) ≤ square_of (place_along place way num den)

-- a square c + 2 b t + w t t at the fraction t, num / den, times den squared
abbrev pub over_gap : ℤ → ℤ → ℤ → ℕ → ℕ → ℤ
over_gap c b w num den = pos den *ℤ pos den *ℤ c +ℤ pos 2 *ℤ (pos num *ℤ pos den) *ℤ b +ℤ pos num *ℤ pos num *ℤ w

-- it is never below 0
pub record NeverBelow (c b w : ℤ) : Type 0 where
  pub keeps : (num den : ℕ) → 0 < den → num ≤ den → pos 0 ≤ℤ over_gap c b w num den
