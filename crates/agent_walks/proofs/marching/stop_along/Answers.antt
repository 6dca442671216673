use Rattle.std.proofs.Common.{◌∙◌}
use Rattle.agent_walks.proofs.LineLaws.{arrives, next_places, ready}
use Rattle.agent_walks.proofs.marching.stop_along.Goals as goal

pub past_corners-standing-requires : goal.past_corners-standing-requires
past_corners-standing-requires c =
    let way = c.args.way in
    next_places c.args.mesh.now way.first c.requires.line.0 way.links.now way.point way.goal way.corners.now c.requires.sound c.requires.line.1 c.requires.line.1.few

pub stop_from-requires-clause-polys : goal.stop_from-requires-clause-polys
stop_from-requires-clause-polys c =
    let way = c.args.way in
    (ready c.args.mesh.now way.first c.requires.line.0 way.links.now way.point way.goal way.corners.now c.requires.sound c.requires.line.1 c.args.length
    c.past_corners-standing.result c.as_slice.result.now c.past_corners-standing.ensures (c.as_slice.ensures.value ∙ c.in_ok-polys.ensures)).polygons

pub stop_from-requires-clause-goal : goal.stop_from-requires-clause-goal
stop_from-requires-clause-goal c =
    let way = c.args.way in
    (ready c.args.mesh.now way.first c.requires.line.0 way.links.now way.point way.goal way.corners.now c.requires.sound c.requires.line.1 c.args.length
    c.past_corners-standing.result c.as_slice.result.now c.past_corners-standing.ensures (c.as_slice.ensures.value ∙ c.in_ok-polys.ensures)).reaches

pub stop_from-requires-clause-stands : goal.stop_from-requires-clause-stands
stop_from-requires-clause-stands c =
    let way = c.args.way in
    (ready c.args.mesh.now way.first c.requires.line.0 way.links.now way.point way.goal way.corners.now c.requires.sound c.requires.line.1 c.args.length
    c.past_corners-standing.result c.as_slice.result.now c.past_corners-standing.ensures (c.as_slice.ensures.value ∙ c.in_ok-polys.ensures)).stands

pub returns : goal.returns
returns c =
    let way = c.args.way in
    arrives c.args.mesh.now way.first c.requires.line.0 way.links.now way.point way.goal way.corners.now c.requires.sound c.requires.line.1 c.args.length
    c.past_corners-standing.result c.stop_from.result c.as_slice.result.now c.past_corners-standing.ensures (c.as_slice.ensures.value ∙ c.in_ok-polys.ensures)
    c.stop_from.ensures.ends c.stop_from.ensures.stops
