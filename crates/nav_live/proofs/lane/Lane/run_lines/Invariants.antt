use Rattle.std.proofs.Common.{◌≡◌, take}
use Rattle.nav_live.specs.LaneSteps.{HasRunAll}
use Rattle.nav_live.proofs.lane.Lane.run_lines.Given as goal

-- the lane has run the lines so far, and its pass has kept its number
abbrev pub invariant-loop-line : goal.invariant-loop-line
invariant-loop-line g l = record {
  so_far : HasRunAll l.context.lock.now (take l.line-index l.list) l.self;
  named : l.self.pass.number ≡ l.fn.self.pass.number;
}
