use Rattle.storey_laws.proofs.BuiltTiles.{each_corner_is_place}
use Rattle.storey_laws.proofs.laws.corners_are_places.Goals as goal

pub returns : goal.returns
returns c = each_corner_is_place
