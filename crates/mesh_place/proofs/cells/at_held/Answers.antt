use Rattle.std.proofs.Common.{sym, ◌∙◌}
use Rattle.std.proofs.lemmas.Bool.{iff_false}
use Rattle.mesh_types.specs.declared.storeys.MeshPlace.{MeshPlace}
use Rattle.mesh_place.specs.Searches.{IsHeldOnLine, IsOnLine, IsWithin, place_over}
use Rattle.mesh_place.proofs.SearchLaws.{found_measurable, taken, led_beyond, led_left_out, led_found}
use Rattle.mesh_place.proofs.ScanLaws.{stands_over, reach_over, holds_it, led_over}
use Rattle.mesh_place.proofs.cells.at_held.Goals as goal

pub returns-then-not-is_within : goal.returns-then-not-is_within
returns-then-not-is_within c =
    let mesh = c.args.mesh.now in
    let search = c.args.search.now in
    let part = c.args.part.now in
    let cell = c.args.cell in
    let point = c.args.point in
    let led = led_over mesh search.asked part cell point (IsHeldOnLine part cell point.z) (IsOnLine part cell point.z) c.requires.nearest
    (λ other stands one. (
      one.over,
      record { point = record { over = one.over.over; on = one.on }; holds = holds_it mesh search.asked part other c.requires.part stands one.over.polygon },
    )) in
    led_beyond mesh search.asked (place_over part cell point) (IsOnLine part cell point.z) c.args.best search.reach c.requires.best led
    (iff_false c.is_within.ensures c.if-not-is_within.true)

pub comes_before-requires-clause-second : goal.comes_before-requires-clause-second
comes_before-requires-clause-second c =
    found_measurable c.args.mesh.now c.args.search.now.asked c.args.best c.requires.sound c.requires.best

pub returns-then-not-comes_before : goal.returns-then-not-comes_before
returns-then-not-comes_before c =
    let mesh = c.args.mesh.now in
    let search = c.args.search.now in
    let part = c.args.part.now in
    let cell = c.args.cell in
    let point = c.args.point in
    let led = led_over mesh search.asked part cell point (IsHeldOnLine part cell point.z) (IsOnLine part cell point.z) c.requires.nearest
    (λ other stands one. (
      one.over,
      record { point = record { over = one.over.over; on = one.on }; holds = holds_it mesh search.asked part other c.requires.part stands one.over.polygon },
    )) in
    led_left_out mesh search.asked (place_over part cell point) (IsOnLine part cell point.z)
    (λ (other : MeshPlace). IsOnLine part cell point.z other × IsWithin search other.point) c.args.best (λ other one. one.0) c.requires.best led
    (sym c.comes_before.ensures ∙ c.if-not-comes_before.true)

pub returns : goal.returns
returns c =
    let mesh = c.args.mesh.now in
    let search = c.args.search.now in
    let part = c.args.part.now in
    let cell = c.args.cell in
    let point = c.args.point in
    let led = led_over mesh search.asked part cell point (IsHeldOnLine part cell point.z) (IsOnLine part cell point.z) c.requires.nearest
    (λ other stands one. (
      one.over,
      record { point = record { over = one.over.over; on = one.on }; holds = holds_it mesh search.asked part other c.requires.part stands one.over.polygon },
    )) in
    let stands = stands_over mesh search.asked part cell point c.requires.part c.requires.cell c.requires.held.point.over c.requires.held.holds in
    let near = reach_over mesh search part cell point c.requires.part c.requires.search c.requires.near (c.is_within.ensures.0 c.if-not-is_within.false) in
    led_found mesh search.asked (place_over part cell point) (IsOnLine part cell point.z)
    (λ (other : MeshPlace). IsOnLine part cell point.z other × IsWithin search other.point) c.args.best _ (λ other one. one.0) led stands near
    (taken mesh search.asked c.args.best (place_over part cell point) stands near (sym c.comes_before.ensures ∙ c.if-not-comes_before.false))
