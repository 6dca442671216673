use Rattle.mesh_input.proofs.WalkLaws.{walkable}
use Rattle.mesh_input.proofs.triangle.is_walkable.Goals as goal

pub returns : goal.returns
returns c grid facet is = walkable grid c.args.slope facet c.args.on.now c.is_gentle.result c.edge.result c.edge-2.result is c.edge.ensures c.edge-2.ensures c.is_gentle.ensures
