use Rattle.std.proofs.Common.{◌-◌, ◌*◌}
use Rattle.wall_slide.specs.Feet.{far_from}
use Rattle.wall_slide.proofs.FootLaws.{IsOutward}
use Rattle.wall_slide.proofs.feet.nearer_beside.Given as goal

-- what was found on the rows so far
abbrev pub invariant-loop-out : goal.invariant-loop-out
invariant-loop-out l = IsOutward l.polygon l.motion l.foot.row l.fn.best l.nearest l.out

-- how much nearer it is than the rows
abbrev pub decreases-loop-out : goal.decreases-loop-out
decreases-loop-out l = far_from l.motion l.nearest - l.out * l.out
