use Rattle.outline_laws.proofs.UnitRings.{keep_three}
use Rattle.outline_laws.proofs.laws.unit_rings_keep_three.Goals as goal

pub returns : goal.returns
returns c = keep_three
