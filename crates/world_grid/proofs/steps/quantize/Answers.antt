use Rattle.std.proofs.Common.{Bool, ap, sym, ◌∙◌, le_trans, le_of_eq, refl, lt_of_lt_of_le, true≢false}
use Rattle.world_grid.proofs.ValueLaws.{finite_value}
use Rattle.world_grid.proofs.Readings.{count_reads, negated_reads}
use Rattle.world_grid.specs.FloatParts.{size_of}
use Rattle.world_grid.specs.Grid.{signed}
use Rattle.world_grid.proofs.StepLaws.{steps_near, counted, one_steps}
use Rattle.world_grid.proofs.steps.quantize.Goals as goal

pub returns-in_err-parts-clause-none : goal.returns-in_err-parts-clause-none
returns-in_err-parts-clause-none c _ n h = absurd (true≢false (sym (finite_value c.args.x h.negative h.size _ h.value) ∙ c.in_err-parts.ensures.none refl))

pub returns-in_err-count-clause-none : goal.returns-in_err-count-clause-none
returns-in_err-count-clause-none c _ n h =
    let parts = c.in_ok-parts.parts in
    le_trans c.requires.most (c.in_err-count.ensures.none refl _ (steps_near c.args.x c.args.step parts.negative (size_of parts) n c.in_ok-parts.ensures.found h))

pub returns-then-count-most-clause-none : goal.returns-then-count-most-clause-none
returns-then-count-most-clause-none c _ n h =
    let parts = c.in_ok-parts.parts in
    le_trans c.if-count-most.true (le_of_eq (sym (counted c.args.x c.args.step parts.negative (size_of parts) c.in_ok-count.count n c.in_ok-parts.ensures.found c.in_ok-count.ensures.nearest h)))

pub returns-then-parts-clause-only : goal.returns-then-parts-clause-only
returns-then-parts-clause-only c m h =
    let parts = c.in_ok-parts.parts in
    let e = one_steps c.args.x c.args.step parts.negative (size_of parts) c.in_ok-count.count m c.in_ok-parts.ensures.found c.in_ok-count.ensures.nearest h in
    e ∙ ap (λ (s : Bool). signed s c.in_ok-count.count) c.if-parts.true ∙ sym (negated_reads c.in_ok-count.count (lt_of_lt_of_le c.if-count-most.false c.requires.most))

pub returns-else-parts-clause-only : goal.returns-else-parts-clause-only
returns-else-parts-clause-only c m h =
    let parts = c.in_ok-parts.parts in
    let e = one_steps c.args.x c.args.step parts.negative (size_of parts) c.in_ok-count.count m c.in_ok-parts.ensures.found c.in_ok-count.ensures.nearest h in
    e ∙ ap (λ (s : Bool). signed s c.in_ok-count.count) c.if-parts.false ∙ sym (count_reads c.in_ok-count.count (lt_of_lt_of_le c.if-count-most.false c.requires.most))
