use Rattle.outline_laws.proofs.UnitRings.{not_flat}
use Rattle.outline_laws.proofs.laws.unit_rings_are_not_flat.Goals as goal

pub returns : goal.returns
returns c = not_flat
