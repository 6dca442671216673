use Rattle.storey_laws.proofs.PlacesTold.{each_height_told}
use Rattle.storey_laws.proofs.answers.heights_are_told.Goals as goal

pub returns : goal.returns
returns c = each_height_told
