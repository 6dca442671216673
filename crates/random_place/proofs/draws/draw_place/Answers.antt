use Rattle.random_place.proofs.DrawLaws.{one_only, tells}
use Rattle.random_place.proofs.draws.draw_place.Goals as goal

pub returns-clause-place : goal.returns-clause-place
returns-clause-place c = tells c.args.mesh.now c.args.asked c.right_answer.result c.right_answer.ensures

pub returns-clause-only : goal.returns-clause-only
returns-clause-only c = one_only c.args.mesh.now c.args.asked c.right_answer.result c.right_answer.ensures
