use Rattle.std.proofs.Common.{◌≡◌, ◌++◌, drop, take}
use Rattle.crowd_handle.specs.Agents.{all_placed_told}
use Rattle.crowd_handle.proofs.agents.tell_all_placed.Given as goal

-- the agents so far have what is told, the others are as they were
abbrev pub invariant-loop-place : goal.invariant-loop-place
invariant-loop-place l = l.room ≡ take l.place (all_placed_told l.placed l.fn.room) ++ drop l.place l.fn.room
