use Rattle.std.proofs.Common.{◌+◌, List, sym, subst, take}
use Rattle.mesh_types.specs.declared.storeys.MeshPlace.{MeshPlace}
use Rattle.place_ways.proofs.CornerLaws.{AreCornersSoFar, corners_more, links_listed}
use Rattle.place_ways.proofs.corners.corners.Goals as goal

pub corner_place-requires-clause-links : goal.corner_place-requires-clause-links
corner_place-requires-clause-links c =
    links_listed c.args.mesh.now c.args.from.polygon c.args.links.now c.args.goal.polygon c.requires.walks

pub loop-turn-preserved : goal.loop-turn-preserved
loop-turn-preserved c =
    subst (λ (cs : List MeshPlace). AreCornersSoFar c.args.mesh.now c.args.from c.args.links.now (take (c.loop-turn.turn-index + 1) c.args.turns.now) cs)
    (sym c.in_ok-push-2.ensures.items)
    (corners_more c.args.mesh.now c.args.from c.args.links.now c.args.turns.now c.loop-turn.corners.items c.loop-turn.turn-index _
    c.corner_place.result c.loop-turn-test.true c.loop-turn.invariant c.corner_place.ensures)
