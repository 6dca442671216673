use Rattle.crowd_filter.proofs.RunLaws.{held_stay, runs_keep}
use Rattle.crowd_filter.proofs.laws.runs.Goals as goal

pub returns-clause-held : goal.returns-clause-held
returns-clause-held c = held_stay

pub returns-clause-keep : goal.returns-clause-keep
returns-clause-keep c = runs_keep c.stays.ensures.on_mesh c.stays.ensures.end
