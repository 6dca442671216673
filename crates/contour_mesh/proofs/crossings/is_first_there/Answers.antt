use Rattle.std.proofs.Common.{ap, arith, sym, ◌∙◌}
use Rattle.std.proofs.lemmas.List.{get_or_default}
use Rattle.contour_mesh.specs.declared.crossings.AtPosition.{AtPosition}
use Rattle.contour_mesh.specs.SidePlaces.{is_same_place}
use Rattle.contour_mesh.proofs.PlaceLaws.{count_is}
use Rattle.contour_mesh.proofs.crossings.is_first_there.Goals as goal

pub returns-then-index-eq0 : goal.returns-then-index-eq0
returns-then-index-eq0 g c = λ is.
    count_is c.args.place c.args.placed.now c.args.index c.index-placed-index.result c.requires c.if-index-placed.false
    (sym c.is_same_place.ensures ∙ c.if-not-is_same_place.false) (λ some. absurd (omega (arith, some, c.if-index-eq0.true)))

pub returns : goal.returns
returns g c = λ is.
    let before = c.index-placed-index-2.result in
    count_is c.args.place c.args.placed.now c.args.index before c.requires c.if-index-placed.false
    (ap (λ (p : AtPosition g.row.T.Denot). is_same_place p.place c.args.place)
    (get_or_default c.args.placed.now c.args.index before c.index-placed-index.result c.if-index-placed.false)
    ∙ sym c.is_same_place.ensures ∙ c.if-not-is_same_place.false)
    (λ some. sym c.is_before.ensures ∙ is)
