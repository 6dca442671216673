-- How far the parts of a vector between two points can reach.
use Rattle.std.specs.Prelude.{ℤ, ◌≤◌, ◌^◌, unsigned_abs}

-- the number is a difference of two coordinates, or less
pub record IsWithinReach (n : ℤ) : Type 0 where
  pub near : unsigned_abs n ≤ 2 ^ 17
