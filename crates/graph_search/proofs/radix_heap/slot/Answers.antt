use Rattle.std.proofs.Common.{inl, inr, arith, ◌-◌, ◌/◌}
use Rattle.graph_search.proofs.Slots.{slot-at}
use Rattle.graph_search.proofs.radix_heap.slot.Goals as goal

pub returns-then-digit-eq0 : goal.returns-then-digit-eq0
returns-then-digit-eq0 c =
    slot-at 11 ((63 - c.min.result) / 6) c.args.last c.args.key (omega arith) c.if-before-after.true
    (elim c.if-digit-eq0.either [ inl differ ↦ inl differ | inr lowest ↦ inr lowest.1 ])
