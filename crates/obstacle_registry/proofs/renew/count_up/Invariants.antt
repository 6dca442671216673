use Rattle.std.proofs.Common.{◌≡◌, ◌<◌, ℕ, ◌+◌, get_or}
use Rattle.obstacle_registry.proofs.renew.count_up.Given as goal

-- the numbers so far are those of their places
abbrev pub invariant-loop-place : goal.invariant-loop-place
invariant-loop-place l = (k : ℕ) → k < l.place → get_or l.numbers k 0 ≡ k + 1
