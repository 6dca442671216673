use Rattle.nav_live.proofs.LaneLineLaws.{AreGiven}
use Rattle.nav_live.proofs.start.lines_by_lane.Given as goal

-- the lines so far are given
abbrev pub invariant-loop-line : goal.invariant-loop-line
invariant-loop-line l = AreGiven l.fn.script.lanes l.fn.script.lines l.line-index l.current l.lists.items
