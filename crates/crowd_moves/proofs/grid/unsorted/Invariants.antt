use Rattle.std.proofs.Common.{◌≡◌, ℕ, ◌<◌, length}
use Rattle.std.specs.Prelude.{slice_get, Some}
use Rattle.crowd_moves.specs.declared.agents.CrowdAgent.{CrowdAgent}
use Rattle.crowd_moves.specs.Contacts.{entry_of}
use Rattle.crowd_moves.proofs.grid.unsorted.Given as goal

-- the entries of the agents so far
abbrev pub invariant-loop-i : goal.invariant-loop-i
invariant-loop-i l = record {
  many : length l.entries.items ≡ l.i;
  each : (k : ℕ) (a : CrowdAgent) → k < l.i → slice_get l.agents k ≡ Some a → slice_get l.entries.items k ≡ Some (entry_of l.side k a);
}
