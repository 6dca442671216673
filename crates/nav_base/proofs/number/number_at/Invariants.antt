use Rattle.std.proofs.Common.{length, ◌-◌}
use Rattle.nav_base.proofs.NumberLaws.{HasRead}
use Rattle.nav_base.proofs.number.number_at.Given as goal

-- the digits so far, and the number that they spell
abbrev pub invariant-loop-len : goal.invariant-loop-len
invariant-loop-len l = HasRead l.bytes l.len l.number

abbrev pub decreases-loop-len : goal.decreases-loop-len
decreases-loop-len l = length l.bytes - l.len
