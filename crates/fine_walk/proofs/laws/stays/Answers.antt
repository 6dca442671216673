use Rattle.fine_walk.proofs.OneWay.{end_held}
use Rattle.fine_walk.proofs.StayLaws.{ways_stay}
use Rattle.fine_walk.proofs.laws.stays.Goals as goal

pub returns-clause-on_mesh : goal.returns-clause-on_mesh
returns-clause-on_mesh c = ways_stay

pub returns-clause-end : goal.returns-clause-end
returns-clause-end c = end_held
