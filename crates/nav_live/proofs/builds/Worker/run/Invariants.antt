use Rattle.std.proofs.Common.{◌≡◌, ◌≤◌}
use Rattle.nav_live.specs.Lanes.{SawOthers}
use Rattle.nav_live.proofs.builds.Worker.run.Given as goal

-- the pass has seen no further entry of its own since the call, few claims have given none, and the number is the worker's
abbrev pub invariant-loop : goal.invariant-loop
invariant-loop g l = SawOthers l.context.lock.now l.fn.self.pass l.self.pass × (l.idle ≤ 4096) × (l.self.number ≡ l.fn.self.number)
