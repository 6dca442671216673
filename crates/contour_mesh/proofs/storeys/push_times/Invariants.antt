use Rattle.std.proofs.Common.{◌≡◌, ◌++◌, replicate}
use Rattle.contour_mesh.proofs.storeys.push_times.Given as goal

-- the numbers so far
abbrev pub invariant-loop-time : goal.invariant-loop-time
invariant-loop-time l = l.numbers.items ≡ l.initial.numbers.items ++ replicate l._time l.number
