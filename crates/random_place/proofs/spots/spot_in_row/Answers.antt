use Rattle.std.proofs.Common.{◌≡◌, sym, ap, ◌∙◌, arith}
use Rattle.std.specs.Prelude.{Some, slice_get}
use Rattle.std.specs.Option.{option_copied}
use Rattle.std.proofs.lemmas.Option.{slice_get_within}
use Rattle.random_place.proofs.SpotLaws.{none_in_row, spot_in_row}
use Rattle.random_place.proofs.spots.spot_in_row.Goals as goal

pub returns-in_err-floor-clause-value : goal.returns-in_err-floor-clause-value
returns-in_err-floor-clause-value c =
    c.from_residual.ensures
    ∙ sym (none_in_row c.args.home c.args.z c.args.row.now c.args.number (sym c.get.ensures ∙ ap option_copied c.in_err-floor.was))

pub overflow_cast-result : goal.overflow_cast-result
overflow_cast-result c =
    let there : slice_get c.args.row.now.floors c.args.number ≡ Some c.in_ok-floor.floor.now = sym c.get.ensures ∙ ap option_copied c.in_ok-floor.was in
    omega (arith, slice_get_within c.args.row.now.floors c.args.number c.in_ok-floor.floor.now there, c.requires.row.right)

pub overflow_add-result : goal.overflow_add-result
overflow_add-result c =
    let there : slice_get c.args.row.now.floors c.args.number ≡ Some c.in_ok-floor.floor.now = sym c.get.ensures ∙ ap option_copied c.in_ok-floor.was in
    omega (arith, slice_get_within c.args.row.now.floors c.args.number c.in_ok-floor.floor.now there, c.requires.row.right)

pub returns-clause-value : goal.returns-clause-value
returns-clause-value c =
    sym (spot_in_row c.args.home c.args.z c.args.row.now c.args.number c.from.result
    (sym c.get.ensures ∙ ap option_copied c.in_ok-floor.was ∙ ap Some (sym c.from.ensures)))

pub returns-clause-inside : goal.returns-clause-inside
returns-clause-inside c =
    let there : slice_get c.args.row.now.floors c.args.number ≡ Some c.in_ok-floor.floor.now = sym c.get.ensures ∙ ap option_copied c.in_ok-floor.was in
    record {
      across = omega (arith, slice_get_within c.args.row.now.floors c.args.number c.in_ok-floor.floor.now there, c.requires.row.right);
      along = c.requires.along;
    }
