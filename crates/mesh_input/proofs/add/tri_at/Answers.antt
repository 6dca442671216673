use Rattle.mesh_input.specs.Adding.{lists_of}
use Rattle.mesh_input.proofs.PointLaws.{made_listed}
use Rattle.mesh_input.proofs.add.tri_at.Goals as goal

pub returns-in-Some : goal.returns-in-Some
returns-in-Some c =
    let mesh = c.args.mesh in
    made_listed mesh.grid.now mesh.slope (lists_of mesh.vertices.now mesh.corners.now mesh.areas.now) c.args.place c.area-area.result c.in-Some.on c.tri_on.result
    (c.in-Some.ensures mesh.grid.now mesh.vertices.now c.requires.points) c.area-area.ensures (c.tri_on.ensures mesh.grid.now)
