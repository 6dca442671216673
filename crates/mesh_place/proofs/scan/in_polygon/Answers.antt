use Rattle.std.proofs.Common.{◌≡◌, ℕ, ◌≤◌, sym, ap, subst, ◌∙◌}
use Rattle.std.specs.Prelude.{slice_get, option_and_then}
use Rattle.nav_base.specs.Deviation.{square_of}
use Rattle.nav_base.specs.Point.{from_to}
use Rattle.mesh_types.specs.declared.mesh.TileMesh.{TileMesh}
use Rattle.mesh_types.specs.declared.storeys.MeshPlace.{MeshPlace}
use Rattle.mesh_types.specs.WholeMesh.{poly_at}
use Rattle.mesh_types.proofs.MeshPolygons.{tile_at}
use Rattle.mesh_locate.proofs.Reached.{box_there}
use Rattle.mesh_place.proofs.BoundLaws.{adds, floor_of, none_near}
use Rattle.mesh_place.proofs.SearchLaws.{beyond, found_measurable, passed, skipped}
use Rattle.mesh_place.proofs.ScanLaws.{far_box, not_open, low_area, part_of}
use Rattle.mesh_place.proofs.scan.in_polygon.Goals as goal

pub is_open-requires : goal.is_open-requires
is_open-requires c =
    let polygons = (tile_at c.args.mesh.now c.args.at.tile c.args.here.now c.requires.sound c.requires.tile).fit.polys in
    low_area c.args.here.now.polys c.args.at.index c.extent-extent.result c.extent-extent.ensures polygons c.requires.there

pub returns-then-not-is_open : goal.returns-then-not-is_open
returns-then-not-is_open c =
    let mesh = c.args.mesh.now in
    let at = c.args.at in
    let listed : poly_at mesh at ≡ slice_get c.args.here.now.polys at.index = ap (option_and_then (λ (d : TileMesh). slice_get d.polys at.index)) c.requires.tile in
    passed mesh c.args.asked.now c.args.best (λ (other : MeshPlace). other.polygon ≡ at) c.requires.best
    (λ other stands near one. not_open mesh c.args.asked.now c.args.here.now.polys at c.extent-extent.result listed c.extent-extent.ensures
    (sym c.is_open.ensures ∙ c.if-not-is_open.true) other near one)

pub returns-in_default : goal.returns-in_default
returns-in_default c =
    let mesh = c.args.mesh.now in
    let asked = c.args.asked.now in
    let among : MeshPlace → Type 0 = λ (other : MeshPlace). other.polygon ≡ c.args.at in
    passed mesh asked c.args.best among c.requires.best
    (none_near mesh asked c.floors_of.result among c.in_default.ensures.part
    (floor_of mesh c.args.at c.args.here.now c.floors_of.result c.requires.tile c.floors_of.ensures))

pub box_gap-requires-clause-low : goal.box_gap-requires-clause-low
box_gap-requires-clause-low c =
    let polygons = (tile_at c.args.mesh.now c.args.at.tile c.args.here.now c.requires.sound c.requires.tile).fit.polys in
    (box_there c.args.here.now.polys c.args.at.index c.extent-extent.result c.extent-extent.ensures polygons c.requires.there).low

pub box_gap-requires-clause-high : goal.box_gap-requires-clause-high
box_gap-requires-clause-high c =
    let polygons = (tile_at c.args.mesh.now c.args.at.tile c.args.here.now c.requires.sound c.requires.tile).fit.polys in
    (box_there c.args.here.now.polys c.args.at.index c.extent-extent.result c.extent-extent.ensures polygons c.requires.there).high

pub is_gap_beyond-requires-clause-best : goal.is_gap_beyond-requires-clause-best
is_gap_beyond-requires-clause-best c = found_measurable c.args.mesh.now c.args.asked.now c.args.best c.requires.sound c.requires.best

pub returns-then-is_gap_beyond : goal.returns-then-is_gap_beyond
returns-then-is_gap_beyond c =
    let mesh = c.args.mesh.now in
    let asked = c.args.asked.now in
    let at = c.args.at in
    let tile = c.args.here.now in
    let extent = c.extent-extent.result in
    let least = c.in-Some.least in
    let among : MeshPlace → Type 0 = λ (other : MeshPlace). other.polygon ≡ at in
    let polygons = (tile_at mesh at.tile tile c.requires.sound c.requires.tile).fit.polys in
    let listed : poly_at mesh at ≡ slice_get tile.polys at.index = ap (option_and_then (λ (d : TileMesh). slice_get d.polys at.index)) c.requires.tile in
    let high = adds mesh asked c.floors_of.result least among c.in-Some.ensures.part
    (floor_of mesh at tile c.floors_of.result c.requires.tile c.floors_of.ensures) in
    skipped mesh asked c.args.best among c.requires.best
    (λ other stands near one. beyond mesh asked c.args.best c.box_gap.result least other (c.is_gap_beyond.ensures c.if-is_gap_beyond.true)
    (subst (λ (n : ℕ). n ≤ square_of (from_to asked.point other.point)) (sym c.box_gap.ensures)
    (far_box mesh asked tile.polys at extent listed c.extent-extent.ensures polygons c.requires.there other stands one))
    (high other stands near one) near)

pub in_part-requires-clause-part : goal.in_part-requires-clause-part
in_part-requires-clause-part c =
    let mesh = c.args.mesh.now in
    let at = c.args.at in
    let polygons = (tile_at mesh at.tile c.args.here.now c.requires.sound c.requires.tile).fit.polys in
    let listed : poly_at mesh at ≡ slice_get c.args.here.now.polys at.index = ap (option_and_then (λ (d : TileMesh). slice_get d.polys at.index)) c.requires.tile in
    part_of mesh c.args.asked.now c.args.here.now.polys at c.extent-extent.result c.at.result c.cells_touched.result listed c.extent-extent.ensures polygons
    c.requires.there c.at.ensures (sym c.is_open.ensures ∙ c.if-not-is_open.false) c.cells_touched.ensures

pub in_part-requires-clause-least : goal.in_part-requires-clause-least
in_part-requires-clause-least c =
    adds c.args.mesh.now c.args.asked.now c.floors_of.result c.in-Some.least (λ (other : MeshPlace). other.polygon ≡ c.args.at) c.in-Some.ensures.part
    (floor_of c.args.mesh.now c.args.at c.args.here.now c.floors_of.result c.requires.tile c.floors_of.ensures)
