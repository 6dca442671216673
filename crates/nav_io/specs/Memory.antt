-- The sources and sinks in memory: the numbers of their calls, and what one call moves.
use Rattle.std.specs.Prelude.{ℕ, ◌+◌, ◌-◌, ◌^◌, min, List, drop, Option, Some}

-- the number of the call after this many calls: it stays at 2 ^ 32 - 1 once it is there
abbrev pub next_call : ℕ → ℕ
next_call calls = min (calls + 1) (2 ^ 32 - 1)

-- how many bytes a read gives: as many as a piece has, as there is room for and as are left
abbrev pub given_count : ℕ → ℕ → ℕ → ℕ
given_count piece room left = min (min piece room) left

-- what a source in memory tells that it has left: all its bytes but the first, which it gave
abbrev pub rest_from : ℕ → List ℕ → Option (List ℕ)
rest_from at bytes = Some (drop at bytes)
