use Rattle.std.proofs.Common.{◌≡◌, length}
use Rattle.std.specs.Prelude.{fold, filter}
use Rattle.std.specs.List.{range_with_len}
use Rattle.agent_erode.specs.Reaching.{reached, has_gap}
use Rattle.agent_erode.proofs.reach.Reached.reach_boundary.Given as goal

-- the boundary cells so far are reached
abbrev pub invariant-loop-i : goal.invariant-loop-i
invariant-loop-i l = l.self ≡ fold reached l.initial.self (filter (has_gap l.table (length l.table)) (range_with_len 0 l.i))
