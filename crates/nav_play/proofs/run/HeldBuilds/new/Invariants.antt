use Rattle.std.proofs.Common.{◌≡◌, replicate, None}
use Rattle.nav_play.proofs.run.HeldBuilds.new.Given as goal

-- as many workers as turns, none of which holds anything
abbrev pub invariant-loop : goal.invariant-loop
invariant-loop l = l.held.items ≡ replicate l.counter None
