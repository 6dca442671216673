use Rattle.std.proofs.Common.{◌≡◌, ◌-ℤ◌, ℤ, sym, subst, arith}
use Rattle.std.specs.Prelude.{◌≤ℤ◌}
use Rattle.std.proofs.lemmas.Int.{ints}
use mir.Syntax.{w32}
use mir.Val.{to_z, of_z}
use Rattle.nav_base.specs.declared.point.Point.{Point}
use Rattle.nav_base.specs.Point.{orient_of}
use Rattle.mesh_place.specs.declared.lines.LineSpan.{LineSpan}
use Rattle.mesh_place.specs.Lines.{IsInSpan}
use Rattle.mesh_place.proofs.LineParts.{leftmost}
use Rattle.mesh_place.proofs.Squares.{over_column}
use Rattle.mesh_place.proofs.cells.leftmost_over.Goals as goal

pub returns-clause-left : goal.returns-clause-left
returns-clause-left c q over =
    let seen = λ (n : ℤ). to_z w32 (of_z w32 n) in
    let begin = c.args.begin in
    let end = c.args.end in
    let cell = c.args.cell in
    let first = c.requires.begin in
    let second = c.requires.end in
    let on = over_column cell.x cell.z q over in
    let across = on.across in
    let along = on.along in
    let fall : seen (seen begin.z -ℤ seen end.z) ≡ (begin.z -ℤ end.z) =
    omega (arith, ints, first.along.low, first.along.high, second.along.low, second.along.high) in
    let rise : seen (seen end.x -ℤ seen begin.x) ≡ (end.x -ℤ begin.x) =
    omega (arith, ints, first.across.low, first.across.high, second.across.low, second.across.high) in
    subst (λ (a : Point). orient_of begin end q ≤ℤ orient_of begin end a) (sym c.point_on.ensures.value)
    (leftmost begin end q c.far_end.result c.far_end-2.result across.m along.m _ _ across.is along.is fall rise
    (c.far_end.ensures.far across.m
    (subst (λ (s : LineSpan). IsInSpan s across.m) (sym c.columns_of.ensures.value) (record { first = across.left; last = across.right })))
    (c.far_end-2.ensures.far along.m
    (subst (λ (s : LineSpan). IsInSpan s along.m) (sym c.rows_of.ensures.value) (record { first = along.left; last = along.right }))))
