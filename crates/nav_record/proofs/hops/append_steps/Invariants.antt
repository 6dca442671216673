use Rattle.std.proofs.Common.{take}
use Rattle.std.specs.List.{flat_map}
use Rattle.nav_record.specs.HopTexts.{hop_step_text}
use Rattle.nav_text.proofs.AppendLaws.{Appended}
use Rattle.nav_record.proofs.hops.append_steps.Given as goal

-- the lines of the steps so far are appended
abbrev pub invariant-loop-step : goal.invariant-loop-step
invariant-loop-step l = Appended l.fn.out l.out (flat_map hop_step_text (take l.step-index l.steps))
