use Rattle.std.proofs.Common.{◌≡◌, rules, w32, subst, ◌∙◌, ap, arith}
use Rattle.std.specs.Prelude.{FitsSigned}
use Rattle.std.proofs.lemmas.Int.{to_z-of_z}
use Rattle.mesh_place.specs.declared.columns.ColumnRange.{ColumnRange}
use Rattle.mesh_place.specs.Columns.{span_under}
use Rattle.mesh_place.specs.Floors.{IsFloorToward}
use Rattle.mesh_place.proofs.Rows.{under_alone}
use Rattle.mesh_place.proofs.floors.floor_toward.Goals as goal

pub returns-in-Some : goal.returns-in-Some
returns-in-Some c =
    let storey = c.args.storey.now in
    let aim = c.args.aim in
    let fits : FitsSigned w32 aim.p.z = search rules in
    let under : c.span_under-under.result ≡ span_under aim.p.z = c.span_under-under.ensures ∙ ap span_under (to_z-of_z w32 aim.p.z fits) in
    let last = ap (λ (s : ColumnRange). s.last) under in
    let begins = ap (λ (s : ColumnRange). s.first) under in
    under_alone storey aim c.min-first.result c.min-end.result c.in-Some.floor c.if-floor-eq0.true
    (omega (arith, last, c.min-end.ensures, c.saturating_sub.ensures, c.len-rows.ensures))
    (omega (arith, begins, c.min-first.ensures, c.saturating_sub-2.ensures))
    (subst (IsFloorToward storey aim c.min-first.result c.min-end.result) c.in-Some.is c.floor_in_rows.ensures)
