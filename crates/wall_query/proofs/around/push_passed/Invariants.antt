use Rattle.std.proofs.Common.{take}
use Rattle.wall_slide.specs.Gathers.{IsGathered}
use Rattle.wall_query.specs.Around.{IsPassed}
use Rattle.wall_query.proofs.around.push_passed.Given as goal

-- the list has grown by the links so far
abbrev pub invariant-loop-link : goal.invariant-loop-link
invariant-loop-link l = IsGathered (IsPassed l.mesh l.around) (take l.link-index l.links) l.initial.list.items l.list.items
