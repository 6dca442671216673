use Rattle.std.proofs.Common.{pos, negsuc, ◌-◌, ◌^◌, ◌*ℤ◌, ◌≤ℤ◌, ◌+ℤ◌, ℤ, ap, ap₂, sym, subst, ◌∙◌, lit<}
use Rattle.surface_move.proofs.NearPoints.{in_parts, reached_low, reached_high}
use Rattle.surface_move.proofs.Numbers.{coordinate_reads, sum_reads}
use Rattle.surface_move.proofs.nearby.reached.Goals as goal

pub returns-clause-value : goal.returns-clause-value
returns-clause-value c =
    sum_reads c.product-left.result c.product-gone.result (2 ^ 33) (2 ^ 33) c.product-left.ensures.small c.product-gone.ensures.small (lit< tt) (lit< tt)
    ∙ ap₂ ◌+ℤ◌ (c.product-left.ensures.value ∙ ap (λ (x : ℤ). pos (c.args.steps - c.args.step) *ℤ x) (coordinate_reads c.args.from c.requires.from))
    (c.product-gone.ensures.value ∙ ap (λ (x : ℤ). pos c.args.step *ℤ x) (coordinate_reads c.args.to c.requires.to))
    ∙ in_parts c.args.steps c.args.step c.args.from c.args.to c.requires.step

pub returns-clause-low : goal.returns-clause-low
returns-clause-low c =
    subst (λ (x : ℤ). (pos c.args.steps *ℤ negsuc 65535) ≤ℤ x) (sym (returns-clause-value c))
    (reached_low c.args.steps c.args.step c.args.from c.args.to c.requires.step (negsuc 65535) c.requires.from.low c.requires.to.low)

pub returns-clause-high : goal.returns-clause-high
returns-clause-high c =
    subst (λ (x : ℤ). x ≤ℤ (pos c.args.steps *ℤ pos 65536)) (sym (returns-clause-value c))
    (reached_high c.args.steps c.args.step c.args.from c.args.to c.requires.step (pos 65536) c.requires.from.high c.requires.to.high)
