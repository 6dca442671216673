use Rattle.nav_live.specs.Lanes.{SawOthers}
use Rattle.nav_live.proofs.builds.publish_all.Given as goal

-- the pass has seen no further entry of its own since the call
abbrev pub invariant-loop : goal.invariant-loop
invariant-loop g l = SawOthers l.context.lock.now l.fn.pass l.pass
