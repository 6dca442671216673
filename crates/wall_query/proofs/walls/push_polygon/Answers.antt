use Rattle.std.proofs.Common.{length, ap, arith}
use Rattle.wall_query.proofs.WallLaws.{all_edges, next_edge, no_edges}
use Rattle.wall_query.proofs.walls.push_polygon.Goals as goal

pub push_edge-requires-clause-edge : goal.push_edge-requires-clause-edge
push_edge-requires-clause-edge c = c.edge_of.ensures.named c.args.mesh.now c.polygon_at-polygon.ensures.named

pub loop-edge-init : goal.loop-edge-init
loop-edge-init c = no_edges c.args.mesh.now c.args.around.now c.args.at c.polygon_at-polygon.result c.polygon_at-polygon.ensures.named c.args.walls.now.items

pub loop-edge-preserved : goal.loop-edge-preserved
loop-edge-preserved c =
    next_edge c.args.mesh.now c.args.around.now c.args.at c.polygon_at-polygon.result c.polygon_at-polygon.ensures.named c.loop-edge.edge c.edge_of.result c.edge_of.ensures.is_of
    c.edge_of.ensures.number _ c.loop-edge.walls.items _ c.loop-edge.invariant c.in_ok-push_edge.ensures

pub returns : goal.returns
returns c =
    all_edges c.args.mesh.now c.args.around.now c.args.at c.polygon_at-polygon.result c.polygon_at-polygon.ensures.named c.loop-edge.edge (omega (arith, c.loop-edge-test.false, ap length c.as_slice-edge-end.ensures.value)) _
    c.loop-edge.walls.items c.loop-edge.invariant
