use Rattle.std.proofs.Common.{◌≡◌, ◌++◌, map, take, drop}
use Rattle.nav_play.proofs.Lists.{nothing}
use Rattle.nav_play.proofs.run.HeldBuilds.drop_all.Given as goal

-- the workers so far hold nothing
abbrev pub invariant-loop-worker : goal.invariant-loop-worker
invariant-loop-worker l = l.self-inside.held.items ≡ map nothing (take l.worker l.initial.self-inside.held.items) ++ drop l.worker l.initial.self-inside.held.items
