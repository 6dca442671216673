use Rattle.storey_laws.proofs.PlacesTold.{each_way_turns}
use Rattle.storey_laws.proofs.answers.ways_turn_at_places.Goals as goal

pub returns : goal.returns
returns c = each_way_turns
