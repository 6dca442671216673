use Rattle.std.proofs.Common.{◌≡◌, map, take}
use Rattle.nav_handle.specs.Hopping.{jump_of}
use Rattle.nav_handle.proofs.hops.jumps_from.Given as goal

-- the jumps so far
abbrev pub invariant-loop-jump : goal.invariant-loop-jump
invariant-loop-jump l = l.list.items ≡ map jump_of (take l.jump-index l.jumps)
