use Rattle.std.proofs.Common.{pos, ◌≤◌, ◌^◌, ℤ, sym, subst, lit<}
use Rattle.std.specs.Int.RustNames.{unsigned_abs}
use Rattle.surface_move.proofs.Numbers.{product_reads, product_small}
use Rattle.surface_move.proofs.parts.times.Goals as goal

pub returns-clause-value : goal.returns-clause-value
returns-clause-value c =
    product_reads _ _ (pos c.args.m) (pos c.args.n) 131072 131072 c.from.ensures c.from-2.ensures c.requires.first c.requires.second (lit< tt) (lit< tt) (lit< tt)

pub returns-clause-small : goal.returns-clause-small
returns-clause-small c =
    subst (λ (x : ℤ). unsigned_abs x ≤ 2 ^ 34) (sym (returns-clause-value c))
    (product_small (pos c.args.m) (pos c.args.n) 131072 131072 c.requires.first c.requires.second)
