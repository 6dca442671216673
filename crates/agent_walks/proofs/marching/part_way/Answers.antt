use Rattle.mesh_types.proofs.WalkChains.{held_in_coordinates}
use Rattle.agent_walks.proofs.LineLaws.{held_in'}
use Rattle.agent_walks.proofs.marching.part_way.Goals as goal

pub part-requires-clause-from : goal.part-requires-clause-from
part-requires-clause-from c =
    held_in_coordinates c.args.mesh.now _ c.args.standing.point c.requires.sound (held_in' c.args.mesh.now c.args.standing.point _ c.requires.held)
