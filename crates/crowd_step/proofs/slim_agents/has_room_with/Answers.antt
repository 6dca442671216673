use Rattle.std.proofs.Common.{◌+◌}
use Rattle.crowd_step.proofs.SlimLaws.{rest_is, room_of_both}
use Rattle.crowd_step.proofs.slim_agents.has_room_with.Goals as goal

pub returns : goal.returns
returns c =
    let others = c.args.others in
    room_of_both others.height c.args.radius others.i others.agents.now _ c.args.agent.now c.has_room-before.result c.has_room-behind.result
    (rest_is (others.i + 1) others.agents.now) c.has_room-before.ensures c.has_room-behind.ensures
