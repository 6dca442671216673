use Rattle.std.proofs.Common.{ap₂}
use Rattle.build_queue.specs.Waiting.{Waiting}
use Rattle.build_queue.proofs.FlagLaws.{none_ready}
use Rattle.build_queue.proofs.waiting.WaitingTiles.new.Goals as goal

pub invariant_of-result : goal.invariant_of-result
invariant_of-result c = none_ready c.args.count _ _ _ c.in_ok-new.ensures c.in_ok-new-2.ensures c.in_ok-new-3.ensures

pub returns : goal.returns
returns c = ap₂ (λ awaited claimed. let flags : Waiting = record { awaited = awaited; claimed = claimed } in flags) c.in_ok-new.ensures c.in_ok-new-2.ensures
