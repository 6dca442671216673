use Rattle.storey_laws.proofs.BuiltTiles.{over_own_storeys}
use Rattle.storey_laws.proofs.laws.polygons_tell_floors.Goals as goal

pub returns : goal.returns
returns c = over_own_storeys
