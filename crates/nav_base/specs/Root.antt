-- Square roots of whole numbers, rounded up.
use Rattle.std.specs.Prelude.{ℕ, suc, zero, ◌+◌, ◌-◌, ◌*◌, ◌≤◌, ◌<◌, nat_le, if◌then◌else◌}

-- the least number whose square is at least n
pub record IsLeastRoot (n root : ℕ) : Type 0 where
  pub reaches : n ≤ root * root
  pub least : (r : ℕ) → n ≤ r * r → root ≤ r

-- the square root of a number, rounded up: that of n + 1 is that of n as long as its square reaches n + 1, and else one more
unfoldable pub ceil_sqrt_of : ℕ → ℕ
ceil_sqrt_of zero = 0
ceil_sqrt_of (suc n) = if nat_le (suc n) (ceil_sqrt_of n * ceil_sqrt_of n) then ceil_sqrt_of n else ceil_sqrt_of n + 1

-- a number within one of the square root of n, and not off by a whole one
pub record IsNearRoot (n root : ℕ) : Type 0 where
  pub under : (root - 1) * (root - 1) < n
  pub over : n < (root + 1) * (root + 1)
