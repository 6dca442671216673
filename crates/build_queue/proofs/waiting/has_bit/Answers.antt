use Rattle.std.proofs.Common.{ℕ, ap}
use Rattle.std.specs.Prelude.{◌==◌}
use Rattle.std.proofs.lemmas.Nat.Bits.{shr_and_one}
use Rattle.build_queue.proofs.waiting.has_bit.Goals as goal

pub returns : goal.returns
returns c = ap (λ (b : ℕ). b == 1) (shr_and_one c.args.word c.args.place)
