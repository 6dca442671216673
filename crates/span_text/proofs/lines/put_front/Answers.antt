use Rattle.std.proofs.Common.{◌-◌, ◌++◌, List, ℕ, drop, ap, ◌∙◌, arith, length}
use Rattle.span_text.proofs.LineLaws.{drop_within}
use Rattle.span_text.proofs.lines.put_front.Goals as goal

pub returns-clause-text : goal.returns-clause-text
returns-clause-text c =
    drop_within (c.args.end - 32) c.args.end c.args.front.now.from c.args.bytes.now c.copy_from_slice.new.self (omega arith) c.requires.within (omega (arith, c.requires.front, ap (λ (l : List ℕ). length l) c.copy_from_slice.ensures.after))
    ∙ ap (λ (l : List ℕ). drop c.args.front.now.from l ++ drop c.args.end c.args.bytes.now) c.copy_from_slice.ensures.after
