use Rattle.place_ways.proofs.CornerLaws.{corner_there, has_coordinates, held_there}
use Rattle.place_ways.proofs.corners.corner_place.Goals as goal

pub floor_told-requires-clause-point : goal.floor_told-requires-clause-point
floor_told-requires-clause-point c = has_coordinates c.args.mesh.now c.args.links.now c.args.turn c.requires.sound c.requires.links c.requires.named

pub floor_told-requires-clause-held : goal.floor_told-requires-clause-held
floor_told-requires-clause-held c = held_there c.args.mesh.now c.args.links.now c.args.turn c.requires.sound c.requires.links c.requires.named

pub returns : goal.returns
returns c =
    corner_there c.args.mesh.now c.args.links.now c.args.turn c.requires.sound c.requires.links c.requires.named c.floor_told.result
    c.floor_told.ensures
