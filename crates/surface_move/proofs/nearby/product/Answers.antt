use Rattle.std.proofs.Common.{pos, ◌≤◌, ◌^◌, ℤ, sym, subst, ◌∙◌, lit<}
use Rattle.std.specs.Int.RustNames.{unsigned_abs}
use Rattle.surface_move.proofs.Numbers.{coordinate_reads, small_coordinate, product_fits, product_reads, product_small}
use Rattle.surface_move.proofs.nearby.product.Goals as goal

pub overflow_mul-result : goal.overflow_mul-result
overflow_mul-result c =
    product_fits _ _ (pos c.args.n) c.args.of 131072 65536 c.from.ensures (c.from-2.ensures ∙ coordinate_reads c.args.of c.requires.of) c.requires.few
    (small_coordinate c.args.of c.requires.of) (lit< tt) (lit< tt) (lit< tt)

pub returns-clause-value : goal.returns-clause-value
returns-clause-value c =
    product_reads _ _ (pos c.args.n) c.args.of 131072 65536 c.from.ensures (c.from-2.ensures ∙ coordinate_reads c.args.of c.requires.of) c.requires.few
    (small_coordinate c.args.of c.requires.of) (lit< tt) (lit< tt) (lit< tt)

pub returns-clause-small : goal.returns-clause-small
returns-clause-small c =
    subst (λ (x : ℤ). unsigned_abs x ≤ 2 ^ 33) (sym (returns-clause-value c))
    (product_small (pos c.args.n) c.args.of 131072 65536 c.requires.few (small_coordinate c.args.of c.requires.of))
