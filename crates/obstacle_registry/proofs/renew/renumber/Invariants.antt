use Rattle.std.proofs.Common.{◌≡◌, ◌<◌, ◌≤◌, ℕ, get_or}
use Rattle.obstacle_registry.specs.declared.row.Registered.{Registered}
use Rattle.obstacle_registry.specs.Renewal.{renumbered}
use Rattle.obstacle_registry.proofs.renew.renumber.Given as goal

-- the rows so far have their new numbers, the others are as they were
abbrev pub invariant-loop-row : goal.invariant-loop-row
invariant-loop-row l = record {
  done : (k : ℕ) (d : Registered) → k < l.row-index → get_or l.rows k d ≡ renumbered l.numbers (get_or l.fn.rows k d);
  rest : (k : ℕ) (d : Registered) → l.row-index ≤ k → get_or l.rows k d ≡ get_or l.fn.rows k d;
}
