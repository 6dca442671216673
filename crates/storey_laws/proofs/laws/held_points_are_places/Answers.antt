use Rattle.storey_laws.proofs.BuiltTiles.{each_held_is_place}
use Rattle.storey_laws.proofs.laws.held_points_are_places.Goals as goal

pub returns : goal.returns
returns c = each_held_is_place
