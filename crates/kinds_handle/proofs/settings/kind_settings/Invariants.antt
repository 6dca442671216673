use Rattle.std.proofs.Common.{◌≡◌, take}
use Rattle.kinds_handle.specs.KindSettings.{kind_settings}
use Rattle.kinds_handle.proofs.settings.kind_settings.Given as goal

-- the kinds so far
abbrev pub invariant-loop-kind : goal.invariant-loop-kind
invariant-loop-kind l = l.made.items ≡ kind_settings l.ground l.costs (take l.kind-index l.kinds)
