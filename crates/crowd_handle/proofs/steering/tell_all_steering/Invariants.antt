use Rattle.std.proofs.Common.{◌≡◌, ◌++◌, drop, take}
use Rattle.crowd_handle.specs.CrowdSteering.{all_steering_told}
use Rattle.crowd_handle.proofs.steering.tell_all_steering.Given as goal

-- the agents so far have what is told, the others are as they were
abbrev pub invariant-loop-place : goal.invariant-loop-place
invariant-loop-place l = l.room ≡ take l.place (all_steering_told l.steering l.fn.room) ++ drop l.place l.fn.room
