use Rattle.std.proofs.Common.{sym, ◌∙◌}
use Rattle.random_place.proofs.DrawLaws.{right_nowhere}
use Rattle.random_place.proofs.draws.right_answer.Goals as goal

pub returns-in-None : goal.returns-in-None
returns-in-None c =
    right_nowhere c.args.mesh.now c.args.asked c.count_spots.result c.spot_number-number.result c.count_spots.ensures.value c.spot_number-number.ensures.below
    (sym c.spot_at.ensures.value ∙ c.in-None.is)
