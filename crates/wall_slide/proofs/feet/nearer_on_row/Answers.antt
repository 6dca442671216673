use Rattle.std.proofs.Common.{rules, w32}
use Rattle.std.proofs.lemmas.Int.{to_z-of_z}
use Rattle.wall_slide.proofs.FootLaws.{beside_field, too_high, too_low}
use Rattle.wall_slide.proofs.feet.nearer_on_row.Goals as goal

pub returns-then-z-lt0 : goal.returns-then-z-lt0
returns-then-z-lt0 c =
    beside_field c.args.polygon.now c.args.motion c.requires.rules c.args.best c.requires.best c.args.z
    (λ low high. too_low _ _ (to_z-of_z w32 c.args.z (search rules)) c.if-z-lt0.true low)

pub returns-then-z-gt16384 : goal.returns-then-z-gt16384
returns-then-z-gt16384 c =
    beside_field c.args.polygon.now c.args.motion c.requires.rules c.args.best c.requires.best c.args.z
    (λ low high. too_high _ _ (to_z-of_z w32 c.args.z (search rules)) c.if-z-gt16384.true high)
