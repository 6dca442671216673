use Rattle.crowd_step.proofs.ListLaws.{AreListedSo}
use Rattle.crowd_step.proofs.intents.lists.Given as goal

-- the agents so far have their lists
abbrev pub invariant-loop-i : goal.invariant-loop-i
invariant-loop-i l =
    AreListedSo l.scene.rules.sight l.scene.agents.now l.scene.steering.now l.first.items l.vectors.items l.thoughts.items l.i
