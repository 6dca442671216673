use Rattle.std.proofs.Common.{take}
use Rattle.std.specs.Prelude.{All}
use Rattle.kinds_handle.specs.KindGroundChanges.{IsInside}
use Rattle.kinds_handle.proofs.ground.are_inside.Given as goal

-- the spans so far
abbrev pub invariant-loop-span : goal.invariant-loop-span
invariant-loop-span l = All (IsInside l.columns) (take l.span-index l.spans)
