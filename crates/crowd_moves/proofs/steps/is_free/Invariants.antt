use Rattle.std.proofs.Common.{◌≡◌, ℕ, ◌<◌, ◌≤◌}
use Rattle.std.specs.Prelude.{slice_get, Some}
use Rattle.crowd_moves.specs.Contacts.{begin_at}
use Rattle.crowd_moves.specs.Steps.{IsClearBeside}
use Rattle.crowd_moves.proofs.steps.is_free.Given as goal

-- the move is clear of those of the contacts so far
abbrev pub invariant-loop-k : goal.invariant-loop-k
invariant-loop-k l =
    (k j : ℕ) → begin_at l.crowd.contacts.now.first.items l.i ≤ k → k < l.k → slice_get l.others k ≡ Some j
    → IsClearBeside l.crowd.height l.crowd.agents.now l.moves l.i l.made j
