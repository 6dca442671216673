-- Which tiles await a build, and which builds are claimed, as flags.
use Rattle.std.specs.Prelude.{◌≡◌, ℕ, ◌<◌, Bool, not, ◌&&◌, List, length, Option}
use Rattle.build_queue.specs.Flags.{flag_of, least_below}

-- two flags a tile
pub record Waiting : Type 0 where
  pub awaited : List Bool
  pub claimed : List Bool

-- the flags say that a tile is awaited and not claimed
abbrev pub is_ready : Waiting → ℕ → Bool
is_ready waiting tile = flag_of waiting.awaited tile && not (flag_of waiting.claimed tile)

-- the least tile of which they say so
abbrev pub least_ready : Waiting → Option ℕ
least_ready waiting = least_below (length waiting.awaited) (is_ready waiting)

-- a set of flags has the tiles that are ready
pub record AreReady (waiting : Waiting) (ready : List Bool) : Type 0 where
  pub claims : length waiting.claimed ≡ length waiting.awaited
  pub each : length ready ≡ length waiting.awaited
  pub same : (tile : ℕ) → tile < length waiting.awaited → flag_of ready tile ≡ is_ready waiting tile
