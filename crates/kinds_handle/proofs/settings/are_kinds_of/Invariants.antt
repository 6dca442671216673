use Rattle.std.proofs.Common.{take}
use Rattle.std.specs.Prelude.{All}
use Rattle.kinds_handle.specs.KindSettings.{IsKindOf}
use Rattle.kinds_handle.proofs.settings.are_kinds_of.Given as goal

-- the kinds so far
abbrev pub invariant-loop-kind : goal.invariant-loop-kind
invariant-loop-kind l = All (IsKindOf l.ground) (take l.kind-index l.kinds)
