use Rattle.std.proofs.Common.{ℕ, ◌*◌, ◌-◌, ◌≤◌, FitsSigned, w32, sym, subst, ap, ◌∙◌, rules, arith}
use Rattle.std.specs.Prelude.{unsigned_abs}
use Rattle.std.proofs.lemmas.Int.{to_z-of_z}
use Rattle.nav_base.proofs.Sizes.{HasCoordinates-field}
use Rattle.mesh_place.specs.Lines.{point_on}
use Rattle.wall_slide.specs.Rows.{IsRowPart, IsWithin, whole_row}
use Rattle.wall_slide.proofs.RowLaws.{apart, read, root_most, square-most, row_out, row_in}
use Rattle.wall_slide.proofs.rows.part_within.Goals as goal

pub returns-in_err-checked_sub : goal.returns-in_err-checked_sub
returns-in_err-checked_sub c =
    let z = c.args.motion.from.z in
    let fits : FitsSigned w32 z = search rules in
    let along = read z c.unsigned_abs.result c.requires.motion.from.bottom c.requires.motion.from.top
    (c.unsigned_abs.ensures.value ∙ ap unsigned_abs (to_z-of_z w32 z fits)) in
    let aside = c.from-aside.ensures ∙ c.abs_diff.ensures ∙ apart z c.args.z c.unsigned_abs.result along.is in
    subst (IsRowPart (λ x. IsWithin c.args.motion (point_on x c.args.z)) whole_row) (sym c.from_residual.ensures)
    (row_out c.args.motion c.args.z c.from-aside.result aside (omega (arith, c.in_err-checked_sub.ensures, c.square_distance-square.ensures)))

pub floor_sqrt-half-requires : goal.floor_sqrt-half-requires
floor_sqrt-half-requires c =
    let most = square-most c.args.motion.from c.args.motion.to (HasCoordinates-field c.args.motion.from c.requires.motion.from) c.requires.motion.to in
    omega (arith, most, c.square_distance-square.ensures, c.in_ok-checked_sub.ensures)

pub overflow_add-middle : goal.overflow_add-middle
overflow_add-middle c =
    let x = c.args.motion.from.x in
    let fits : FitsSigned w32 x = search rules in
    let across = read x c.unsigned_abs-middle.result c.requires.motion.from.left c.requires.motion.from.right
    (c.unsigned_abs-middle.ensures.value ∙ ap unsigned_abs (to_z-of_z w32 x fits)) in
    let under = c.floor_sqrt-half.ensures.under in
    let most = square-most c.args.motion.from c.args.motion.to (HasCoordinates-field c.args.motion.from c.requires.motion.from) c.requires.motion.to in
    record { fits = omega (arith, across.few, small c.floor_sqrt-half.result (omega (arith, under, most, c.square_distance-square.ensures, c.in_ok-checked_sub.ensures))) }
  where
    small : (n : ℕ) → n * n ≤ 34359738368 → n ≤ 185364
    small n most = root_most n 185364 34359738368 most (omega arith)

pub returns : goal.returns
returns c =
    let x = c.args.motion.from.x in
    let z = c.args.motion.from.z in
    let fits : FitsSigned w32 x = search rules in
    let fits' : FitsSigned w32 z = search rules in
    let across = read x c.unsigned_abs-middle.result c.requires.motion.from.left c.requires.motion.from.right
    (c.unsigned_abs-middle.ensures.value ∙ ap unsigned_abs (to_z-of_z w32 x fits)) in
    let along = read z c.unsigned_abs.result c.requires.motion.from.bottom c.requires.motion.from.top
    (c.unsigned_abs.ensures.value ∙ ap unsigned_abs (to_z-of_z w32 z fits')) in
    let aside = c.from-aside.ensures ∙ c.abs_diff.ensures ∙ apart z c.args.z c.unsigned_abs.result along.is in
    let square = c.square_distance-square.ensures in
    row_in c.args.motion c.args.z c.from-aside.result aside c.in_ok-checked_sub.field-0 c.floor_sqrt-half.result c.unsigned_abs-middle.result
    (omega (arith, square, c.in_ok-checked_sub.ensures.0)) (c.in_ok-checked_sub.ensures.1 ∙ (λ i. square i - c.from-aside.result * c.from-aside.result))
    c.floor_sqrt-half.ensures.under c.floor_sqrt-half.ensures.over across.is across.few c.saturating_sub.result c.min.result c.saturating_sub.ensures c.min.ensures
