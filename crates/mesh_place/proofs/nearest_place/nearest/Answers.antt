use Rattle.mesh_place.proofs.OneNearest.{tells, one_only}
use Rattle.mesh_place.proofs.nearest_place.nearest.Goals as goal

pub returns-clause-place : goal.returns-clause-place
returns-clause-place c = tells c.args.mesh.now c.args.asked.now c.right_answer.result c.right_answer.ensures

pub returns-clause-only : goal.returns-clause-only
returns-clause-only c = one_only c.args.mesh.now c.args.asked.now c.right_answer.result c.right_answer.ensures
