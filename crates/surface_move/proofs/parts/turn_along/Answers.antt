use Rattle.std.proofs.Common.{pos, ◌≤◌, ◌^◌, ◌*ℤ◌, ◌+ℤ◌, ◌-ℤ◌, ℤ, ap, ap₂, sym, subst, ◌∙◌, lit<}
use Rattle.std.specs.Int.RustNames.{unsigned_abs}
use Rattle.nav_base.proofs.Sizes.{orient_of-bound}
use Rattle.surface_move.proofs.Numbers.{difference_fits, difference_reads, reads, sum_reads}
use Rattle.surface_move.proofs.Turns.{not_right}
use Rattle.surface_move.proofs.parts.turn_along.Goals as goal

pub product-requires-clause-of : goal.product-requires-clause-of
product-requires-clause-of c =
    let small : unsigned_abs c.orient-from.result ≤ 2 ^ 35 =
    subst (λ (x : ℤ). unsigned_abs x ≤ 2 ^ 35) (sym c.orient-from.ensures) (orient_of-bound c.args.begin c.args.end c.args.way.from c.requires.begin c.requires.end c.requires.way.from) in
    subst (λ (x : ℤ). unsigned_abs x ≤ 2 ^ 35) (sym (reads c.orient-from.result (2 ^ 35) small (lit< tt))) small

pub overflow_sub-result : goal.overflow_sub-result
overflow_sub-result c =
    let small : unsigned_abs c.orient-from.result ≤ 2 ^ 35 =
    subst (λ (x : ℤ). unsigned_abs x ≤ 2 ^ 35) (sym c.orient-from.ensures) (orient_of-bound c.args.begin c.args.end c.args.way.from c.requires.begin c.requires.end c.requires.way.from) in
    let small' : unsigned_abs c.orient-to.result ≤ 2 ^ 35 =
    subst (λ (x : ℤ). unsigned_abs x ≤ 2 ^ 35) (sym c.orient-to.ensures) (orient_of-bound c.args.begin c.args.end c.args.way.to c.requires.begin c.requires.end c.requires.way.to) in
    difference_fits c.orient-to.result c.orient-from.result (2 ^ 35) (2 ^ 35) small' small (lit< tt) (lit< tt)

pub returns : goal.returns
returns c g q near left =
    let small : unsigned_abs c.orient-from.result ≤ 2 ^ 35 =
    subst (λ (x : ℤ). unsigned_abs x ≤ 2 ^ 35) (sym c.orient-from.ensures) (orient_of-bound c.args.begin c.args.end c.args.way.from c.requires.begin c.requires.end c.requires.way.from) in
    let small' : unsigned_abs c.orient-to.result ≤ 2 ^ 35 =
    subst (λ (x : ℤ). unsigned_abs x ≤ 2 ^ 35) (sym c.orient-to.ensures) (orient_of-bound c.args.begin c.args.end c.args.way.to c.requires.begin c.requires.end c.requires.way.to) in
    not_right c.args.begin c.args.end c.args.way g q _ _ c.rounding.result c.requires.way c.rounding.ensures.most
    (sum_reads c.product.result c.rounding.result (2 ^ 52) (2 ^ 34) c.product.ensures.small c.rounding.ensures.small (lit< tt) (lit< tt)
    ∙ ap (λ (x : ℤ). x +ℤ c.rounding.result)
    (c.product.ensures.value ∙ ap (λ (x : ℤ). pos c.args.way.steps *ℤ x) (reads c.orient-from.result (2 ^ 35) small (lit< tt) ∙ c.orient-from.ensures)))
    (difference_reads c.orient-to.result c.orient-from.result (2 ^ 35) (2 ^ 35) small' small (lit< tt) (lit< tt) ∙ ap₂ ◌-ℤ◌ c.orient-to.ensures c.orient-from.ensures)
    near left
