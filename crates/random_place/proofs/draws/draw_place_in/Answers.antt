use Rattle.random_place.proofs.DrawLaws.{one_only, tells}
use Rattle.random_place.proofs.draws.draw_place_in.Goals as goal

pub returns-clause-place : goal.returns-clause-place
returns-clause-place c = tells c.args.mesh.now c.args.asked c.answer_by.result c.answer_by.ensures

pub returns-clause-only : goal.returns-clause-only
returns-clause-only c = one_only c.args.mesh.now c.args.asked c.answer_by.result c.answer_by.ensures
