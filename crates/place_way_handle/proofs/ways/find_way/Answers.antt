use Rattle.std.proofs.Common.{subst}
use Rattle.nav_handle.specs.Answers.{IsAskedBy}
use Rattle.place_ways.specs.declared.ways.PlaceWayQuery.{PlaceWayQuery}
use Rattle.place_ways.specs.Ways.{IsRightPlaceWay}
use Rattle.place_way_handle.specs.Finding.{found_ends}
use Rattle.place_way_handle.specs.Joining.{told_way}
use Rattle.place_way_handle.proofs.ways.find_way.Goals as goal

pub returns-clause-asked : goal.returns-clause-asked
returns-clause-asked g c can =
    subst (λ (q : PlaceWayQuery). IsAskedBy (IsRightPlaceWay q) found_ends told_way (g.H.HasMesh.mesh_in c.args.held.now) (c.args.way.now, c.args.links.now, c.args.corners.now)
    (c.end_way.new.way, c.end_way.new.links, c.end_way.new.corners) c.end_way.result) c.in-Some.ensures.query
    (c.end_way.ensures _ c.in-Some.query c.ask_by-answer.ensures.replied)
