use Rattle.place_ways.proofs.StoreyFloors.{none_found}
use Rattle.place_ways.proofs.corners.floor_told.Goals as goal

pub prove-unreachable-requires : goal.prove-unreachable-requires
prove-unreachable-requires c =
    none_found c.args.mesh.now c.args.at c.args.p c.requires.held c.in-NoPlace.ensures c.storey_of.result c.storey_of.ensures.value
    c.storey_of.ensures.rules c.if-prove.ensures
