use Rattle.std.proofs.Common.{◌≡◌}
use Rattle.std.specs.List.{range_with_len}
use Rattle.strip_mesh.proofs.storeys.homes.Given as goal

-- the places so far
abbrev pub invariant-loop-strip : goal.invariant-loop-strip
invariant-loop-strip l = l.homes.items ≡ range_with_len 0 l.strip
