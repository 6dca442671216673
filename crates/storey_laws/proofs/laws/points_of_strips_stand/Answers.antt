use Rattle.storey_laws.proofs.BuiltTiles.{each_strip_stands}
use Rattle.storey_laws.proofs.laws.points_of_strips_stand.Goals as goal

pub returns : goal.returns
returns c = each_strip_stands
