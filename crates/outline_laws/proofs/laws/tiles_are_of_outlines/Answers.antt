use Rattle.outline_laws.proofs.UncutOutlines.{tiles_if_cut}
use Rattle.outline_laws.proofs.laws.tiles_are_of_outlines.Goals as goal

pub returns : goal.returns
returns c = tiles_if_cut
