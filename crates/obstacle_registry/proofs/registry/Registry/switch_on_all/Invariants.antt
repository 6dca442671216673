use Rattle.obstacle_registry.proofs.SwitchingOn.{AreOnSoFar}
use Rattle.obstacle_registry.proofs.registry.Registry.switch_on_all.Given as goal

-- the rows at the places so far were switched on
abbrev pub invariant-loop-place : goal.invariant-loop-place
invariant-loop-place l = AreOnSoFar l.places l.place-index l.fn.self l.self
