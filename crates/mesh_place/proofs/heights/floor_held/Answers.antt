use Rattle.mesh_place.proofs.FloorPlaces.{floor_in}
use Rattle.std.proofs.Common.{sym}
use Rattle.mesh_place.proofs.heights.floor_held.Goals as goal

pub returns : goal.returns
returns c =
    floor_in c.args.mesh.now c.args.at c.args.aim c.in_ok-storey_of.field-0.now c.floor_toward.result c.requires.held (sym c.in_ok-storey_of.ensures.value)
    c.in_ok-storey_of.ensures.rules c.floor_toward.ensures
