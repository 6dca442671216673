use Rattle.std.proofs.Common.{◌+◌, ◌-◌, length}
use Rattle.wall_slide.specs.Slides.{IsPassed}
use Rattle.wall_slide.proofs.GatherLaws.{IsGathering}
use Rattle.wall_slide.proofs.Lefts.{lacks}
use Rattle.wall_slide.proofs.around.gather.Given as goal

-- the list has what the links enter of its polygons before the next one
abbrev pub invariant-loop-next : goal.invariant-loop-next
invariant-loop-next l = IsGathering l.mesh (IsPassed l.mesh l.fn.asked) l.fn.asked.from.polygon l.list.items l.next

-- how many polygons the list lacks, and how many of it are left
abbrev pub decreases-loop-next : goal.decreases-loop-next
decreases-loop-next l = lacks l.mesh l.list.items + (length l.list.items - l.next)
