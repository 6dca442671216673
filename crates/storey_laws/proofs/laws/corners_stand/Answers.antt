use Rattle.storey_laws.proofs.BuiltTiles.{each_corner_stands}
use Rattle.storey_laws.proofs.laws.corners_stand.Goals as goal

pub returns : goal.returns
returns c = each_corner_stands
