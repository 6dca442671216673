use Rattle.std.proofs.Common.{◌≡◌, ℕ, ◌+◌, ◌<◌, ◌≤◌}
use Rattle.std.specs.Prelude.{slice_get, Some}
use Rattle.crowd_moves.specs.declared.agents.CrowdAgent.{CrowdAgent}
use Rattle.crowd_moves.proofs.grid.widest.Given as goal

-- no agent so far has more
abbrev pub invariant-loop-i : goal.invariant-loop-i
invariant-loop-i l = record {
  all : (k : ℕ) (a : CrowdAgent) → k < l.i → slice_get l.agents k ≡ Some a → a.radius + a.speed ≤ l.most;
  small : l.most ≤ 16382;
}
