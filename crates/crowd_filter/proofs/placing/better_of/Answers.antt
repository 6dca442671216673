use Rattle.crowd_filter.proofs.PlacingLaws.{one_searched}
use Rattle.crowd_filter.proofs.placing.better_of.Goals as goal

pub returns-in-Some : goal.returns-in-Some
returns-in-Some c =
    one_searched c.args.mesh.now c.args.agent.now c.args.at c.args.had c.in-Some.gap c.better.result c.requires.had c.in-Some.ensures.some c.better.ensures.one
    c.better.ensures.had c.better.ensures.other
