use Rattle.storey_laws.proofs.SpotPlaces.{each_draw_is_whole}
use Rattle.storey_laws.proofs.answers.draws_on_strips_are_whole.Goals as goal

pub returns : goal.returns
returns c = each_draw_is_whole
