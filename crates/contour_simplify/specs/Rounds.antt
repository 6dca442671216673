-- Rounds: places on the way round a contour.
use Rattle.std.specs.Prelude.{ℕ, ◌+◌, ◌<◌, List, length, get_or}

-- places in rising order, all of them below a limit
pub record AreKeptRound (limit : ℕ) (places : List ℕ) : Type 0 where
  pub some : 0 < length places
  pub rising : (k : ℕ) → k + 1 < length places → get_or places k 0 < get_or places (k + 1) 0
  pub below : (k : ℕ) → k < length places → get_or places k 0 < limit
