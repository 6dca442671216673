use Rattle.shortest_line.proofs.WalkLaws.{corridor_short}
use Rattle.shortest_line.proofs.walks.corridor.Goals as goal

pub returns-in-Some-clause-found : goal.returns-in-Some-clause-found
returns-in-Some-clause-found c =
    corridor_short c.args.sought.mesh.now c.args.sought.first c.args.sought.last c.in-Some.corridor c.requires.sound c.requires.setting
    (rw c.in-Some.is at c.in_ok-corridor.ensures.found)
