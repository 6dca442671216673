use Rattle.std.proofs.Common.{subst}
use Rattle.std.proofs.lemmas.Bool.{iff_false}
use Rattle.nav_base.specs.declared.deviation.Deviation.{Deviation}
use Rattle.nav_base.specs.Deviation.{Exceeds}
use Rattle.mesh_types.specs.Simplified.{origin}
use Rattle.contour_simplify.proofs.Deviations.{split_is, straight_is}
use Rattle.contour_simplify.proofs.run.split.Goals as goal

pub returns-then-exceeds : goal.returns-then-exceeds
returns-then-exceeds c =
    split_is c.args.error c.args.half c.farthest-place.result origin c.farthest-place.ensures.value
    (subst (λ (d : Deviation). Exceeds d c.args.error) c.dev.ensures.value (c.exceeds.ensures.0 c.if-exceeds.true))

pub returns-else-exceeds : goal.returns-else-exceeds
returns-else-exceeds c =
    straight_is c.args.error c.args.half c.farthest-place.result origin c.farthest-place.ensures.value
    (λ exceeds. iff_false c.exceeds.ensures c.if-exceeds.false (rw c.dev.ensures.value exceeds))
