use Rattle.std.proofs.Common.{ℕ, ◌≤◌, ◌<◌}
use Rattle.std.specs.Prelude.{slice_index}
use Rattle.corridor_search.proofs.weights.least_cost.Given as goal

-- the least so far is from 1 to 1000, and no area gone through costs less
abbrev pub invariant-loop-area : goal.invariant-loop-area
invariant-loop-area l =
    (1 ≤ l.least) × (l.least ≤ 1000) × ((a : ℕ) → 1 ≤ a → a < l.area → l.least ≤ slice_index l.setting.costs a)
