use Rattle.storey_laws.proofs.PlacesTold.{each_slide_ends}
use Rattle.storey_laws.proofs.answers.slides_end_at_places.Goals as goal

pub returns : goal.returns
returns c = each_slide_ends
