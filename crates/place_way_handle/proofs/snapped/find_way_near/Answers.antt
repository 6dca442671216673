use Rattle.std.proofs.Common.{subst}
use Rattle.nav_handle.specs.Answers.{IsAskedBy}
use Rattle.near_ways.specs.declared.snapped.NearWayQuery.{NearWayQuery}
use Rattle.near_ways.specs.NearWays.{IsRightNearWay}
use Rattle.place_way_handle.specs.Finding.{found_ends}
use Rattle.place_way_handle.specs.Snapping.{told_near_way}
use Rattle.place_way_handle.proofs.snapped.find_way_near.Goals as goal

pub returns-clause-asked : goal.returns-clause-asked
returns-clause-asked g c can =
    subst (λ (q : NearWayQuery). IsAskedBy (IsRightNearWay q) found_ends told_near_way (g.H.HasMesh.mesh_in c.args.held.now) (c.args.way.now, c.args.links.now, c.args.corners.now)
    (c.end_near_way.new.way, c.end_near_way.new.links, c.end_near_way.new.corners) c.end_near_way.result) c.in-Some.ensures.query
    (c.end_near_way.ensures _ c.in-Some.query c.ask_by-answer.ensures.replied)
