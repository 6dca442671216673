use Rattle.std.proofs.Common.{pos, sym, ◌∙◌}
use Rattle.std.proofs.lemmas.Bool.{iff_false}
use Rattle.mesh_types.specs.declared.storeys.MeshPlace.{MeshPlace}
use Rattle.mesh_place.specs.Searches.{IsOnLine, IsWithin, place_over}
use Rattle.mesh_place.proofs.SearchLaws.{found_measurable, passed, led_beyond, led_left_out}
use Rattle.mesh_place.proofs.ScanLaws.{led_line, held_nearest, held_there, none_held}
use Rattle.mesh_place.proofs.cells.in_line.Goals as goal

pub returns-then-not-is_within : goal.returns-then-not-is_within
returns-then-not-is_within c =
    let mesh = c.args.mesh.now in
    let search = c.args.search.now in
    let part = c.args.part.now in
    let point = c.point_on-point.result in
    led_beyond mesh search.asked (place_over part c.args.cell point) (IsOnLine part c.args.cell (pos c.args.z)) c.args.best search.reach c.requires.best
    (led_line mesh search.asked part c.args.cell c.args.z c.nearest_across-near.result c.columns_of-span.result point c.columns_of-span.ensures.value
    c.nearest_across-near.ensures.nearest c.point_on-point.ensures.value)
    (iff_false c.is_within.ensures c.if-not-is_within.true)

pub comes_before-requires-clause-second : goal.comes_before-requires-clause-second
comes_before-requires-clause-second c =
    found_measurable c.args.mesh.now c.args.search.now.asked c.args.best c.requires.sound c.requires.best

pub returns-then-not-comes_before : goal.returns-then-not-comes_before
returns-then-not-comes_before c =
    let mesh = c.args.mesh.now in
    let search = c.args.search.now in
    let part = c.args.part.now in
    let point = c.point_on-point.result in
    led_left_out mesh search.asked (place_over part c.args.cell point) (IsOnLine part c.args.cell (pos c.args.z))
    (λ (other : MeshPlace). IsOnLine part c.args.cell (pos c.args.z) other × IsWithin search other.point) c.args.best (λ other one. one.0) c.requires.best
    (led_line mesh search.asked part c.args.cell c.args.z c.nearest_across-near.result c.columns_of-span.result point c.columns_of-span.ensures.value
    c.nearest_across-near.ensures.nearest c.point_on-point.ensures.value)
    (sym c.comes_before.ensures ∙ c.if-not-comes_before.true)

pub returns-in_default : goal.returns-in_default
returns-in_default c =
    let mesh = c.args.mesh.now in
    let search = c.args.search.now in
    let part = c.args.part.now in
    passed mesh search.asked c.args.best (λ (other : MeshPlace). IsOnLine part c.args.cell (pos c.args.z) other × IsWithin search other.point) c.requires.best
    (λ other stands near one. none_held mesh search.asked part c.args.cell c.args.z c.columns_of-span.result c.requires.part c.columns_of-span.ensures.value
    c.in_default.ensures other stands one.0)

pub at_held-requires-clause-held : goal.at_held-requires-clause-held
at_held-requires-clause-held c =
    held_there c.args.part.now c.args.cell c.args.z c.columns_of-span.result c.in-Some.held c.columns_of-span.ensures.value c.in-Some.ensures c.nearest_across-x.result
    c.point_on.result c.nearest_across-x.ensures.inside c.point_on.ensures.value c.requires.above c.requires.below

pub at_held-requires-clause-nearest : goal.at_held-requires-clause-nearest
at_held-requires-clause-nearest c =
    held_nearest c.args.part.now c.args.cell c.args.z c.columns_of-span.result c.in-Some.held c.columns_of-span.ensures.value c.in-Some.ensures
    c.args.search.now.asked.point c.nearest_across-x.result c.point_on.result c.nearest_across-x.ensures.nearest c.point_on.ensures.value
