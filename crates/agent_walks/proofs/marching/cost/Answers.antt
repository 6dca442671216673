use Rattle.std.proofs.Common.{rules, ◌<◌, length, arith}
use Rattle.agent_walks.proofs.CorridorParts.{one_link_more}
use Rattle.mesh_types.proofs.WalkChains.{some_link}
use Rattle.agent_walks.proofs.marching.cost.Goals as goal

pub overflow_add-cost : goal.overflow_add-cost
overflow_add-cost c =
    let there : c.loop-link.link-index < length c.args.links.now = search rules in
    omega (arith, one_link_more c.args.mesh.now c.args.links.now c.loop-link.link-index some_link there, c.loop-link.invariant, c.weight_over-cost.ensures, c.requires.small)
