use Rattle.outline_laws.proofs.ContourSteps.{region_not_flat}
use Rattle.outline_laws.proofs.laws.regions_are_not_flat.Goals as goal

pub returns : goal.returns
returns c = region_not_flat
