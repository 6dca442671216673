use Rattle.storey_laws.proofs.BuiltTiles.{shared_by_storeys}
use Rattle.storey_laws.proofs.laws.storeys_share_free_cells.Goals as goal

pub returns : goal.returns
returns c = shared_by_storeys
