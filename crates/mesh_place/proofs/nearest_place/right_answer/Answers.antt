use Rattle.mesh_place.proofs.OneNearest.{right_place, right_none}
use Rattle.mesh_place.proofs.nearest_place.right_answer.Goals as goal

pub returns-in-Some : goal.returns-in-Some
returns-in-Some c =
    right_place c.args.mesh.now c.args.asked.now c.in_tiles.result c.in-Some.place c.requires.sound c.requires.setting c.in_tiles.ensures c.in-Some.is

pub returns-in-None : goal.returns-in-None
returns-in-None c = right_none c.args.mesh.now c.args.asked.now c.in_tiles.result c.requires.sound c.requires.setting c.in_tiles.ensures c.in-None.is
