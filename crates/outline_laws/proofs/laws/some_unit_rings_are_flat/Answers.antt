use Rattle.outline_laws.proofs.OneCell.{some_are_flat}
use Rattle.outline_laws.proofs.laws.some_unit_rings_are_flat.Goals as goal

pub returns : goal.returns
returns c = some_are_flat
