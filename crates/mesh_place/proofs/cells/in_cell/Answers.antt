use Rattle.std.proofs.Common.{◌≡◌, sym, ◌∙◌}
use Rattle.std.proofs.lemmas.Bool.{iff_false}
use Rattle.nav_base.specs.declared.point.Point.{Point}
use Rattle.mesh_types.specs.declared.storeys.MeshPlace.{MeshPlace}
use Rattle.mesh_types.specs.Places.{column_gap}
use Rattle.mesh_place.specs.Searches.{IsOverCell, IsWithin, place_over}
use Rattle.mesh_place.proofs.SearchLaws.{found_measurable, passed, taken, led_beyond, led_left_out, led_found}
use Rattle.mesh_place.proofs.ScanLaws.{holds_it, not_near, stands_over, reach_over, led_over}
use Rattle.mesh_place.proofs.cells.in_cell.Goals as goal

pub returns-then-not-is_height_near : goal.returns-then-not-is_height_near
returns-then-not-is_height_near c =
    let search = c.args.search.now in
    passed c.args.mesh.now search.asked c.args.best (λ (other : MeshPlace). IsOverCell c.args.part.now c.args.cell other × IsWithin search other.point) c.requires.best
    (λ other stands near one. not_near c.args.mesh.now search.asked c.args.part.now c.args.cell
    (iff_false c.is_height_near.ensures c.if-not-is_height_near.true) other near one.0)

pub returns-then-not-is_within : goal.returns-then-not-is_within
returns-then-not-is_within c =
    let mesh = c.args.mesh.now in
    let search = c.args.search.now in
    let part = c.args.part.now in
    let cell = c.args.cell in
    let point = c.nearest_over-point.result in
    led_beyond mesh search.asked (place_over part cell point) (IsOverCell part cell) c.args.best search.reach c.requires.best
    (led_over mesh search.asked part cell point (λ (q : Point). 0 ≡ column_gap cell.x cell.z q) (IsOverCell part cell) c.nearest_over-point.ensures.nearest
    (λ other stands one. (one, one.over)))
    (iff_false c.is_within.ensures c.if-not-is_within.true)

pub comes_before-requires-clause-second : goal.comes_before-requires-clause-second
comes_before-requires-clause-second c =
    found_measurable c.args.mesh.now c.args.search.now.asked c.args.best c.requires.sound c.requires.best

pub returns-then-not-comes_before : goal.returns-then-not-comes_before
returns-then-not-comes_before c =
    let mesh = c.args.mesh.now in
    let search = c.args.search.now in
    let part = c.args.part.now in
    let cell = c.args.cell in
    let point = c.nearest_over-point.result in
    led_left_out mesh search.asked (place_over part cell point) (IsOverCell part cell)
    (λ (other : MeshPlace). IsOverCell part cell other × IsWithin search other.point) c.args.best (λ other one. one.0) c.requires.best
    (led_over mesh search.asked part cell point (λ (q : Point). 0 ≡ column_gap cell.x cell.z q) (IsOverCell part cell) c.nearest_over-point.ensures.nearest
    (λ other stands one. (one, one.over)))
    (sym c.comes_before.ensures ∙ c.if-not-comes_before.true)

pub returns-then-holds : goal.returns-then-holds
returns-then-holds c =
    let mesh = c.args.mesh.now in
    let search = c.args.search.now in
    let part = c.args.part.now in
    let cell = c.args.cell in
    let point = c.nearest_over-point.result in
    let stands = stands_over mesh search.asked part cell point c.requires.part c.requires.cell c.nearest_over-point.ensures.over (c.holds.ensures.0 c.if-holds.true) in
    let near = reach_over mesh search part cell point c.requires.part c.requires.search (c.is_height_near.ensures.0 c.if-not-is_height_near.false)
    (c.is_within.ensures.0 c.if-not-is_within.false) in
    led_found mesh search.asked (place_over part cell point) (IsOverCell part cell) (λ (other : MeshPlace). IsOverCell part cell other × IsWithin search other.point)
    c.args.best _ (λ other one. one.0)
    (led_over mesh search.asked part cell point (λ (q : Point). 0 ≡ column_gap cell.x cell.z q) (IsOverCell part cell) c.nearest_over-point.ensures.nearest
    (λ other stands one. (one, one.over)))
    stands near
    (taken mesh search.asked c.args.best (place_over part cell point) stands near (sym c.comes_before.ensures ∙ c.if-not-comes_before.false))

pub returns-then-is_cell_right : goal.returns-then-is_cell_right
returns-then-is_cell_right c =
    let mesh = c.args.mesh.now in
    let search = c.args.search.now in
    let part = c.args.part.now in
    let cell = c.args.cell in
    passed mesh search.asked c.args.best (λ (other : MeshPlace). IsOverCell part cell other × IsWithin search other.point) c.requires.best
    (λ other stands near one. c.is_cell_right.ensures c.if-is_cell_right.true other.point one.0.over
    (holds_it mesh search.asked part other c.requires.part stands one.0.polygon))
