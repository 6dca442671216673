use Rattle.std.proofs.Common.{pos, ◌≤◌, ◌^◌, ℤ, refl, sym, subst, lit<}
use Rattle.std.specs.Int.RustNames.{unsigned_abs}
use Rattle.surface_move.proofs.Numbers.{product_fits, product_reads, product_small}
use Rattle.surface_move.proofs.parts.product.Goals as goal

pub overflow_mul-result : goal.overflow_mul-result
overflow_mul-result c =
    product_fits _ _ (pos c.args.n) c.args.of 131072 (2 ^ 35) c.from.ensures refl c.requires.few c.requires.of (lit< tt) (lit< tt) (lit< tt)

pub returns-clause-value : goal.returns-clause-value
returns-clause-value c =
    product_reads _ _ (pos c.args.n) c.args.of 131072 (2 ^ 35) c.from.ensures refl c.requires.few c.requires.of (lit< tt) (lit< tt) (lit< tt)

pub returns-clause-small : goal.returns-clause-small
returns-clause-small c =
    subst (λ (x : ℤ). unsigned_abs x ≤ 2 ^ 52) (sym (returns-clause-value c))
    (product_small (pos c.args.n) c.args.of 131072 (2 ^ 35) c.requires.few c.requires.of)
