use Rattle.std.proofs.Common.{ap, arith, sym, ◌∙◌}
use Rattle.std.proofs.lemmas.List.{get_or_default}
use Rattle.contour_mesh.specs.declared.crossings.AtPosition.{AtPosition}
use Rattle.contour_mesh.specs.SidePlaces.{is_same_place}
use Rattle.contour_mesh.proofs.PlaceLaws.{first_there, none_past, none_there}
use Rattle.contour_mesh.proofs.crossings.first_at.Goals as goal

pub returns-then-first-placed : goal.returns-then-first-placed
returns-then-first-placed g c =
    none_past c.args.placed.now c.args.place c.count_before-first.result c.count_before-first.ensures.ahead c.if-first-placed.true

pub returns-then-not-is_same_place : goal.returns-then-not-is_same_place
returns-then-not-is_same_place g c =
    let first = c.count_before-first.result in
    let e = c.index-placed-first.result in
    none_there c.args.placed.now c.args.place first c.count_before-first.ensures.ahead e c.requires c.if-first-placed.false
    (c.count_before-first.ensures.late first e (omega arith) c.if-first-placed.false) (sym c.is_same_place.ensures ∙ c.if-not-is_same_place.true)

pub returns : goal.returns
returns g c =
    let place = c.args.place in
    let first = c.count_before-first.result in
    first_there c.args.placed.now place first c.count_before-first.ensures.ahead c.index-placed-first-2.result c.if-first-placed.false
    (ap (λ (p : AtPosition g.row.T.Denot). is_same_place p.place place)
    (get_or_default c.args.placed.now first c.index-placed-first-2.result c.index-placed-first.result c.if-first-placed.false)
    ∙ sym c.is_same_place.ensures ∙ c.if-not-is_same_place.false)
