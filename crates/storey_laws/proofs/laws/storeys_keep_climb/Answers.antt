use Rattle.storey_laws.proofs.BuiltTiles.{within_climb}
use Rattle.storey_laws.proofs.laws.storeys_keep_climb.Goals as goal

pub returns : goal.returns
returns c = within_climb
