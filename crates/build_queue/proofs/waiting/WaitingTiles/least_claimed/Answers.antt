use Rattle.build_queue.proofs.FlagLaws.{least_there}
use Rattle.build_queue.proofs.waiting.WaitingTiles.least_claimed.Goals as goal

pub returns-clause-there : goal.returns-clause-there
returns-clause-there c = rw (← c.self.view_is) (least_there c.self.inside.claimed _ c.least.result c.least.ensures c.self.invariant.claims)
