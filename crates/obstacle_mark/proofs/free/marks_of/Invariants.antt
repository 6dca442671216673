use Rattle.std.proofs.Common.{◌≡◌, take, map}
use Rattle.std.specs.Prelude.{is_some}
use Rattle.obstacle_mark.proofs.free.marks_of.Given as goal

-- the marks so far
abbrev pub invariant-loop-area : goal.invariant-loop-area
invariant-loop-area l = l.marks.items ≡ map is_some (take l.area-index l.areas)
