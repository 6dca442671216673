use Rattle.std.proofs.Common.{ap, subst, ◌∙◌, ℤ, w64}
use Rattle.std.proofs.lemmas.Int.{to_z-of_z}
use Rattle.world_grid.specs.Grid.{IsSteps, told_of}
use Rattle.world_grid.proofs.FrameLaws.{counted}
use Rattle.world_grid.proofs.place.float_at.Goals as goal

pub returns-clause-found : goal.returns-clause-found
returns-clause-found c =
    let reads = counted c.args.from c.args.n c.from.result c.unsigned_abs.result c.unsigned_abs-2.result (to_z-of_z w64 c.args.from c.ranges.from) c.from.ensures
    c.ranges.n.sfits c.unsigned_abs.ensures.value c.unsigned_abs-2.ensures.value c.if-unsigned_abs-ge-STEP_LIMIT.false c.if-unsigned_abs-ge-STEP_LIMIT-2.false in
    record { begins = reads.0; is = subst (IsSteps c.dequantize.result c.args.step) reads.2 c.dequantize.ensures.back; near = reads.1 }

pub returns-clause-told : goal.returns-clause-told
returns-clause-told c =
    let reads = counted c.args.from c.args.n c.from.result c.unsigned_abs.result c.unsigned_abs-2.result (to_z-of_z w64 c.args.from c.ranges.from) c.from.ensures
    c.ranges.n.sfits c.unsigned_abs.ensures.value c.unsigned_abs-2.ensures.value c.if-unsigned_abs-ge-STEP_LIMIT.false c.if-unsigned_abs-ge-STEP_LIMIT-2.false in
    c.dequantize.ensures.value ∙ ap (λ (n : ℤ). told_of n c.args.step) reads.2
