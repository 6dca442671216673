use Rattle.mesh_types.proofs.WalkChains.{held_in_coordinates}
use Rattle.agent_walks.proofs.LineLaws.{held_in'}
use Rattle.agent_walks.proofs.marching.stop_from.Goals as goal

pub part_way-requires-2-clause-toward : goal.part_way-requires-2-clause-toward
part_way-requires-2-clause-toward c =
    held_in_coordinates c.args.mesh.now _ c.args.goal c.requires.sound (held_in' c.args.mesh.now c.args.goal _ c.requires.goal)
