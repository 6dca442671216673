use Rattle.std.proofs.Common.{◌≡◌, rules, w32, arith}
use Rattle.std.specs.Prelude.{FitsSigned}
use Rattle.std.proofs.lemmas.Bool.{true≢false}
use Rattle.std.proofs.lemmas.Int.{to_z-of_z}
use Rattle.mesh_locate.proofs.Scans.{are_columns, are_rows, rows_begin, rows_located, rows_nowhere}
use Rattle.mesh_locate.proofs.nearest.locate.Goals as goal

pub loop-row-init : goal.loop-row-init
loop-row-init c =
    let fits : FitsSigned w32 c.args.p.z = search rules in
    rows_begin c.args.mesh.now c.args.p c.args.y c.reached_places-rows.result
    (are_rows c.args.mesh.now c.args.p c.args.y _ _ c.reached_places-rows.result c.requires.sound c.requires.setting c.div_ceil-2.ensures
    (to_z-of_z w32 c.args.p.z fits) c.reached_places-rows.ensures.all)

pub nearest_in_row-nearest-requires-clause-columns : goal.nearest_in_row-nearest-requires-clause-columns
nearest_in_row-nearest-requires-clause-columns c =
    let fits : FitsSigned w32 c.args.p.x = search rules in
    are_columns c.args.mesh.now c.args.p c.args.y _ _ c.reached_places-columns.result c.requires.sound c.requires.setting c.div_ceil.ensures
    (to_z-of_z w32 c.args.p.x fits) c.reached_places-columns.ensures.order c.reached_places-columns.ensures.inside c.reached_places-columns.ensures.all

pub returns-in_err-near-clause-none : goal.returns-in_err-near-clause-none
returns-in_err-near-clause-none c =
    let fits : FitsSigned w32 c.args.p.z = search rules in
    let last : c.loop-row.row ≡ c.reached_places-rows.result.end =
    omega (arith, c.loop-row-test.false, c.loop-row.auto.row-end c.reached_places-rows.ensures.order) in (
      λ none. rows_nowhere c.args.mesh.now c.args.p c.args.y c.loop-row.row c.reached_places-rows.result c.loop-row.nearest
          (are_rows c.args.mesh.now c.args.p c.args.y _ _ c.reached_places-rows.result c.requires.sound c.requires.setting c.div_ceil-2.ensures
          (to_z-of_z w32 c.args.p.z fits) c.reached_places-rows.ensures.all) c.requires.sound c.requires.setting last c.loop-row.invariant c.in_err-near.was,
      λ nowhere. search rules,
    )

pub returns-clause-located : goal.returns-clause-located
returns-clause-located c =
    let fits : FitsSigned w32 c.args.p.z = search rules in
    let last : c.loop-row.row ≡ c.reached_places-rows.result.end =
    omega (arith, c.loop-row-test.false, c.loop-row.auto.row-end c.reached_places-rows.ensures.order) in
    rows_located c.args.mesh.now c.args.p c.args.y c.loop-row.row c.reached_places-rows.result c.loop-row.nearest c.in_ok-near.near
    (are_rows c.args.mesh.now c.args.p c.args.y _ _ c.reached_places-rows.result c.requires.sound c.requires.setting c.div_ceil-2.ensures
    (to_z-of_z w32 c.args.p.z fits) c.reached_places-rows.ensures.all) c.requires.sound c.requires.setting last c.loop-row.invariant c.in_ok-near.was

pub returns-clause-none : goal.returns-clause-none
returns-clause-none c =
    (λ none. absurd (true≢false none), λ nowhere. absurd (nowhere c.in_ok-near.near.at (returns-clause-located c).holding))
