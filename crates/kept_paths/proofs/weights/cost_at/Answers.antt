use Rattle.std.proofs.Common.{rules, ◌<◌, length, arith}
use Rattle.mesh_types.proofs.WalkChains.{some_link}
use Rattle.kept_paths.proofs.CostSums.{fits-more}
use Rattle.kept_paths.proofs.weights.cost_at.Goals as goal

pub overflow_add-cost : goal.overflow_add-cost
overflow_add-cost c =
    let there : c.loop-link.link-index < length c.args.links.now = search rules in
    omega (
      arith,
      fits-more c.args.mesh.now c.args.costs.now c.args.links.now c.requires.sound c.requires.setting c.requires.costs c.requires.links
          c.loop-link.link-index some_link there c.requires.few,
      c.loop-link.invariant,
      c.weight-cost.ensures.value,
    )
