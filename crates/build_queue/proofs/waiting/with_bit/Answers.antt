use Rattle.std.proofs.Common.{Bool, ap, sym, ◌∙◌, w64}
use Rattle.std.specs.Prelude.{if◌then◌else◌}
use Rattle.std.proofs.lemmas.Nat.Bits.{bit_at_clear_other, bit_at_clear_same, bit_at_set_other, bit_at_set_same}
use Rattle.build_queue.proofs.waiting.with_bit.Goals as goal

pub returns-then-set-clause-here : goal.returns-then-set-clause-here
returns-then-set-clause-here c = bit_at_set_same w64 c.args.word c.args.place c.requires ∙ ap (λ (b : Bool). if b then 1 else 0) (sym c.if-set.true)

pub returns-then-set-clause-others : goal.returns-then-set-clause-others
returns-then-set-clause-others c = λ other small apart. bit_at_set_other w64 c.args.word c.args.place c.requires other apart

pub returns-else-set-clause-here : goal.returns-else-set-clause-here
returns-else-set-clause-here c = bit_at_clear_same w64 c.args.word c.args.place c.requires ∙ ap (λ (b : Bool). if b then 1 else 0) (sym c.if-set.false)

pub returns-else-set-clause-others : goal.returns-else-set-clause-others
returns-else-set-clause-others c = λ other small apart. bit_at_clear_other w64 c.args.word c.args.place c.requires other small apart
