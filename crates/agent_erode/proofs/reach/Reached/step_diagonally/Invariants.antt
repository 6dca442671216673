use Rattle.std.proofs.Common.{◌≡◌}
use Rattle.std.specs.Prelude.{fold}
use Rattle.agent_erode.specs.Reaching.{reached, diagonal_ends_from}
use Rattle.agent_erode.proofs.reach.Reached.step_diagonally.Given as goal

-- the ends of the steps from the cells so far are reached
abbrev pub invariant-loop-place : goal.invariant-loop-place
invariant-loop-place l = l.self ≡ fold reached l.initial.self (diagonal_ends_from l.table l.initial.self.order l.first l.place)
