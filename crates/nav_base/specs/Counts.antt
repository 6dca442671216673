-- Counts: by how much a counter of steps rose.
use Rattle.std.specs.Prelude.{ℕ, ◌+◌, ◌≤◌}

-- the count did not fall, and rose by so many steps at most
pub record HasRisenAtMost (most before after : ℕ) : Type 0 where
  pub least : before ≤ after
  pub most_risen : after ≤ before + most
