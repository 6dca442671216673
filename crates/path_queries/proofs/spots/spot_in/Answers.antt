use Rattle.std.proofs.Common.{◌+◌, refl, ap, ◌∙◌, arith}
use Rattle.std.specs.Prelude.{slice_index_or}
use Rattle.std.proofs.lemmas.Option.{slice_get-get_or}
use Rattle.graph_search.specs.declared.exploring.ReachedVertex.{ReachedVertex}
use Rattle.mesh_types.specs.WholeMesh.{poly_at}
use Rattle.mesh_types.proofs.HeldPoints.{held_coordinates}
use Rattle.corridor_search.specs.MeshGraphs.{polygon_of}
use Rattle.corridor_search.proofs.Sound.{polygon-rules}
use Rattle.path_queries.proofs.FloodLoops.{no_entry}
use Rattle.path_queries.proofs.SpotLaws.{square-most}
use Rattle.path_queries.proofs.spots.spot_in.Goals as goal

pub square_distance-requires-clause-to : goal.square_distance-requires-clause-to
square_distance-requires-clause-to c =
    let entry : ReachedVertex = slice_index_or c.args.reached.now c.args.place no_entry in
    let there = slice_get-get_or c.args.reached.now c.args.place no_entry c.requires.inside in
    let own = polygon-rules c.args.mesh.now (polygon_of entry.vertex) c.args.polygon.now c.requires.sound (c.requires.polygon entry there) in
    held_coordinates c.args.polygon.now c.nearest_held-point.result own c.nearest_held-point.ensures.holds

pub square_rise-requires-clause-rules : goal.square_rise-requires-clause-rules
square_rise-requires-clause-rules c =
    let entry : ReachedVertex = slice_index_or c.args.reached.now c.args.place no_entry in
    let there = slice_get-get_or c.args.reached.now c.args.place no_entry c.requires.inside in
    polygon-rules c.args.mesh.now (polygon_of entry.vertex) c.args.polygon.now c.requires.sound (c.requires.polygon entry there)

pub overflow_add-result : goal.overflow_add-result
overflow_add-result c =
    let entry : ReachedVertex = slice_index_or c.args.reached.now c.args.place no_entry in
    let there = slice_get-get_or c.args.reached.now c.args.place no_entry c.requires.inside in
    let own = polygon-rules c.args.mesh.now (polygon_of entry.vertex) c.args.polygon.now c.requires.sound (c.requires.polygon entry there) in
    let most = square-most c.args.toward.goal c.nearest_held-point.result c.requires.toward.point
    (held_coordinates c.args.polygon.now c.nearest_held-point.result own c.nearest_held-point.ensures.holds) in
    record { fits = omega (arith, most, c.square_distance.ensures, c.square_rise.ensures.bound) }

pub returns-clause-spot : goal.returns-clause-spot
returns-clause-spot c =
    let entry : ReachedVertex = slice_index_or c.args.reached.now c.args.place no_entry in
    let there = slice_get-get_or c.args.reached.now c.args.place no_entry c.requires.inside in
    record {
      entry = entry;
      there = there;
      at = c.polygon_at-at.ensures;
      cost_is = refl;
      polygon = c.args.polygon.now;
      is = ap (poly_at c.args.mesh.now) c.polygon_at-at.ensures ∙ c.requires.polygon entry there;
      nearest_held = c.nearest_held-point.ensures;
      floor = refl;
      near_is = λ i. c.square_distance.ensures i + c.square_rise.ensures.value i;
    }
