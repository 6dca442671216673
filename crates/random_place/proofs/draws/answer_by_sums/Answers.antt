use Rattle.std.proofs.Common.{◌≡◌, ℕ, List, length, sym, ap, ◌∙◌}
use Rattle.std.specs.Prelude.{slice_get}
use Rattle.random_place.specs.Spots.{spots_of}
use Rattle.random_place.specs.Sums.{sum_of_first}
use Rattle.random_place.proofs.DrawLaws.{drawn_at, right_at, right_nowhere}
use Rattle.random_place.proofs.SumLaws.{all_spots}
use Rattle.random_place.proofs.draws.answer_by_sums.Goals as goal

pub returns-in-Some : goal.returns-in-Some
returns-in-Some c =
    let mesh = c.args.mesh.now in
    let sums = c.args.sums.now in
    let count : c.sum_of_first.result ≡ length (spots_of mesh c.args.asked.areas) =
    c.sum_of_first.ensures
    ∙ ap (λ (ends : List ℕ). sum_of_first ends (length ends)) c.as_slice-ends.ensures
    ∙ all_spots mesh sums c.requires.sums
    ∙ ap (λ areas. length (spots_of mesh areas)) c.requires.areas in
    let found : c.spot_by_sums.result ≡ slice_get (spots_of mesh c.args.asked.areas) c.spot_number-number.result =
    c.spot_by_sums.ensures.value ∙ ap (λ areas. slice_get (spots_of mesh areas) c.spot_number-number.result) c.requires.areas in
    right_at mesh c.args.asked c.in-Some.spot c.over_spot.result
    (sym (drawn_at mesh c.args.asked c.sum_of_first.result c.spot_number-number.result c.spot_by_sums.result count c.spot_number-number.ensures.value found)
    ∙ c.in-Some.is)
    c.over_spot.ensures

pub returns-in-None : goal.returns-in-None
returns-in-None c =
    let mesh = c.args.mesh.now in
    let sums = c.args.sums.now in
    let count : c.sum_of_first.result ≡ length (spots_of mesh c.args.asked.areas) =
    c.sum_of_first.ensures
    ∙ ap (λ (ends : List ℕ). sum_of_first ends (length ends)) c.as_slice-ends.ensures
    ∙ all_spots mesh sums c.requires.sums
    ∙ ap (λ areas. length (spots_of mesh areas)) c.requires.areas in
    let found : c.spot_by_sums.result ≡ slice_get (spots_of mesh c.args.asked.areas) c.spot_number-number.result =
    c.spot_by_sums.ensures.value ∙ ap (λ areas. slice_get (spots_of mesh areas) c.spot_number-number.result) c.requires.areas in
    right_nowhere mesh c.args.asked c.sum_of_first.result c.spot_number-number.result count c.spot_number-number.ensures.below (sym found ∙ c.in-None.is)
