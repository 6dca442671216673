use Rattle.std.proofs.Common.{◌≡◌, ◌+◌, ◌*◌, ◌<◌, ℕ, ap, refl, subst, sym, ◌∙◌, arith}
use Rattle.std.specs.Prelude.{slice_index_or}
use Rattle.std.proofs.lemmas.Option.{slice_get-get_or}
use Rattle.graph_search.specs.declared.exploring.ReachedVertex.{ReachedVertex}
use Rattle.graph_search.proofs.ReachedLists.{get-one}
use Rattle.mesh_types.specs.Located.{height_gap}
use Rattle.mesh_types.specs.WholeMesh.{poly_at}
use Rattle.corridor_search.specs.Estimates.{extent_at}
use Rattle.corridor_search.specs.MeshGraphs.{IsThere, polygon_of}
use Rattle.corridor_search.proofs.Extents.{extent-is, extent-rules}
use Rattle.corridor_search.proofs.Sound.{polygon-rules}
use Rattle.path_queries.proofs.FloodLoops.{no_entry}
use Rattle.path_queries.specs.Spots.{IsNoneBetter}
use Rattle.path_queries.proofs.SpotLaws.{box-farther, box-most, spot-kept, spot-none, spot-stays, spot-taken}
use Rattle.path_queries.proofs.spots.nearer_spot.Goals as goal

less-more : (gap square near : ℕ) → near < gap → near < gap + square
less-more gap square near less = omega (arith, less)

pub box_gap-gap-requires-clause-low : goal.box_gap-gap-requires-clause-low
box_gap-gap-requires-clause-low c =
    (extent-rules c.args.mesh.now c.polygon_at-at.result c.extent_there.result c.requires.sound
    (subst (IsThere c.args.mesh.now) (sym c.polygon_at-at.ensures) (c.requires.there c.args.place no_entry c.requires.inside)) c.extent_there.ensures).box.low

pub box_gap-gap-requires-clause-high : goal.box_gap-gap-requires-clause-high
box_gap-gap-requires-clause-high c =
    (extent-rules c.args.mesh.now c.polygon_at-at.result c.extent_there.result c.requires.sound
    (subst (IsThere c.args.mesh.now) (sym c.polygon_at-at.ensures) (c.requires.there c.args.place no_entry c.requires.inside)) c.extent_there.ensures).box.high

-- the box alone is farther than what was found: so it is with the height
pub returns-then-is_farther : goal.returns-then-is_farther
returns-then-is_farther c =
    let mesh = c.args.mesh.now in
    let list = c.args.reached.now in
    let entry : ReachedVertex = slice_index_or list c.args.place no_entry in
    let at : c.polygon_at-at.result ≡ polygon_of entry.vertex = c.polygon_at-at.ensures in
    let there = c.requires.there c.args.place no_entry c.requires.inside in
    let square = c.args.toward.rise * height_gap there.polygon c.args.toward.y * (c.args.toward.rise * height_gap there.polygon c.args.toward.y) in
    spot-stays mesh c.args.toward list c.requires.sound c.args.place c.args.nearest c.requires.nearest
    (box-farther mesh c.args.toward list c.requires.sound c.args.place c.args.nearest entry there.polygon c.extent_there.result
    (c.box_gap-gap.result + square) square
    (slice_get-get_or list c.args.place no_entry c.requires.inside) there.is
    (c.extent_there.ensures ∙ ap (extent_at mesh) at) refl (λ i. c.box_gap-gap.ensures i + square) (less-more c.box_gap-gap.result square c.args.nearest.near c.if-is_farther.ensures))

pub square_rise-requires-clause-rules : goal.square_rise-requires-clause-rules
square_rise-requires-clause-rules c =
    polygon-rules c.args.mesh.now c.polygon_at-at.result c.polygon_there-polygon.result c.requires.sound c.polygon_there-polygon.ensures

pub overflow_add-in_box : goal.overflow_add-in_box
overflow_add-in_box c =
    let mesh = c.args.mesh.now in
    let polygon = c.polygon_there-polygon.result in
    let own = polygon-rules mesh c.polygon_at-at.result polygon c.requires.sound c.polygon_there-polygon.ensures in
    let most = box-most polygon c.extent_there.result own (c.extent_there.ensures ∙ extent-is mesh c.polygon_at-at.result polygon c.polygon_there-polygon.ensures)
    c.args.toward.goal c.requires.toward.point in
    record { fits = omega (arith, most, c.box_gap-gap.ensures, c.square_rise.ensures.bound) }

pub returns-then-is_farther-2 : goal.returns-then-is_farther-2
returns-then-is_farther-2 c =
    let mesh = c.args.mesh.now in
    let list = c.args.reached.now in
    let entry : ReachedVertex = slice_index_or list c.args.place no_entry in
    let at : c.polygon_at-at.result ≡ polygon_of entry.vertex = c.polygon_at-at.ensures in
    spot-stays mesh c.args.toward list c.requires.sound c.args.place c.args.nearest c.requires.nearest
    (box-farther mesh c.args.toward list c.requires.sound c.args.place c.args.nearest entry c.polygon_there-polygon.result c.extent_there.result
    (c.box_gap-gap.result + c.square_rise.result) c.square_rise.result
    (slice_get-get_or list c.args.place no_entry c.requires.inside) (ap (poly_at mesh) (sym at) ∙ c.polygon_there-polygon.ensures)
    (c.extent_there.ensures ∙ ap (extent_at mesh) at) c.square_rise.ensures.value (λ i. c.box_gap-gap.ensures i + c.square_rise.result) c.if-is_farther-2.ensures)

-- what was found is the spot of this polygon
pub returns-then-place-nearest : goal.returns-then-place-nearest
returns-then-place-nearest c =
    spot-stays c.args.mesh.now c.args.toward c.args.reached.now c.requires.sound c.args.place c.args.nearest c.requires.nearest
    (subst (IsNoneBetter c.args.mesh.now c.args.toward c.args.reached.now c.args.nearest.near c.args.nearest.cost) (sym c.if-place-nearest.true)
    (spot-none c.args.mesh.now c.args.toward c.args.reached.now c.requires.sound c.args.nearest c.requires.nearest))

pub extent_there-requires : goal.extent_there-requires
extent_there-requires c =
    record { there = subst (IsThere c.args.mesh.now) (sym c.polygon_at-at.ensures) (c.requires.there c.args.place no_entry c.requires.inside) }

pub spot_in-spot-requires-clause-polygon : goal.spot_in-spot-requires-clause-polygon
spot_in-spot-requires-clause-polygon c entry is =
    let list = c.args.reached.now in
    let same = get-one list entry (slice_index_or list c.args.place no_entry) c.args.place is (slice_get-get_or list c.args.place no_entry c.requires.inside) in
    let at : polygon_of entry.vertex ≡ c.polygon_at-at.result = ap (λ (e : ReachedVertex). polygon_of e.vertex) same ∙ sym c.polygon_at-at.ensures in
    ap (poly_at c.args.mesh.now) at ∙ c.polygon_there-polygon.ensures

pub returns-then-is_no_worse : goal.returns-then-is_no_worse
returns-then-is_no_worse c =
    spot-kept c.args.mesh.now c.args.toward c.args.reached.now c.requires.sound c.args.place c.args.nearest c.spot_in-spot.result c.requires.nearest
    c.spot_in-spot.ensures.spot c.spot_in-spot.ensures.place c.if-is_no_worse.ensures

pub returns-else-is_no_worse : goal.returns-else-is_no_worse
returns-else-is_no_worse c =
    spot-taken c.args.mesh.now c.args.toward c.args.reached.now c.requires.sound c.args.place c.args.nearest c.spot_in-spot.result
    c.spot_in-spot.ensures.spot c.spot_in-spot.ensures.place c.if-is_no_worse.ensures
