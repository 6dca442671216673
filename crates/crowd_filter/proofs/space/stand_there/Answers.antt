use Rattle.std.proofs.Common.{sym, subst}
use Rattle.crowd_filter.specs.CrowdAgents.{MayWalk}
use Rattle.crowd_filter.proofs.SpaceLaws.{may_stand}
use Rattle.crowd_filter.proofs.space.stand_there.Goals as goal

pub returns-clause-lets : goal.returns-clause-lets
returns-clause-lets c =
    subst (MayWalk c.args.mesh.now c.args.agent.now) (sym c.standing.ensures) (may_stand c.args.mesh.now c.args.agent.now c.inside.ensures c.requires.agent)
