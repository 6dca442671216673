use Rattle.std.proofs.Common.{◌≡◌, ℕ, ℤ, pos, T, ap₂, sym, subst, ◌∙◌}
use Rattle.std.specs.Float.{Float, NotNan, round_to_format}
use lib.Ieee.{binary32, binary64, of_int, div, in_float}
use Rattle.world_grid.specs.Grid.{IsSteps}
use Rattle.world_grid.proofs.ToldLaws.{in_range, counted_small, least_small, counted_reads, least_reads, told_quotient, told_rounded, number, told_back}
use Rattle.world_grid.proofs.steps.dequantize.Goals as goal

pub int_to_float-counted : goal.int_to_float-counted
int_to_float-counted c =
    let few = c.requires.few in
    subst (λ (z : ℤ). T (in_float binary64 z)) (sym (counted_reads c.args.n c.args.step few _ _ c.from.ensures c.ranges.n c.from-2.ensures)) (in_range _ (counted_small c.args.n c.args.step few))

pub int_to_float-least : goal.int_to_float-least
int_to_float-least c =
    let few = c.requires.few in
    subst (λ (a : ℕ). T (in_float binary64 (pos a))) (sym (least_reads c.args.n c.args.step few)) (in_range _ (least_small c.args.n c.args.step few))

pub nearest_f64_to_f32-requires : goal.nearest_f64_to_f32-requires
nearest_f64_to_f32-requires c =
    let few = c.requires.few in
    let product = counted_reads c.args.n c.args.step few _ _ c.from.ensures c.ranges.n c.from-2.ensures in
    subst (λ (x : Float). NotNan x) (sym (ap₂ (λ (z : ℤ) (a : ℕ). div binary64 (of_int binary64 z) (of_int binary64 (pos a))) product (least_reads c.args.n c.args.step few)))
    (number _ _ _ _ (told_quotient c.args.n c.args.step few))

value : (c : goal.After-nearest_f64_to_f32) → c.nearest_f64_to_f32.result ≡ Rattle.world_grid.specs.Grid.told_of c.args.n c.args.step
value c =
    let few = c.requires.few in
    let product = counted_reads c.args.n c.args.step few _ _ c.from.ensures c.ranges.n c.from-2.ensures in
    c.nearest_f64_to_f32.ensures
    ∙ ap₂ (λ (z : ℤ) (a : ℕ). round_to_format binary32 (div binary64 (of_int binary64 z) (of_int binary64 (pos a)))) product (least_reads c.args.n c.args.step few)
    ∙ told_rounded c.args.n c.args.step few

pub returns-clause-value : goal.returns-clause-value
returns-clause-value c = value c

pub returns-clause-back : goal.returns-clause-back
returns-clause-back c = subst (λ (x : Float). IsSteps x c.args.step c.args.n) (sym (value c)) (told_back c.args.n c.args.step c.requires.few)
