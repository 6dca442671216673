use Rattle.std.proofs.Common.{◌≡◌, ℕ, ◌+◌, ◌<◌, ◌≤◌, List, [], Err, length, get_or, subst, sym, ap, ◌∙◌, arith}
use Rattle.std.proofs.lemmas.List.{get_or_read}
use Rattle.std.proofs.lemmas.Result.{err_from_is_err_and}
use Rattle.nav_ground.specs.declared.field.Span.{Span}
use Rattle.tri_raster.specs.declared.triangle.Tri.{Tri}
use Rattle.tri_raster.specs.Sweeps.{AreSpansBefore}
use Rattle.tri_raster.proofs.SweepLaws.{no_rows, begin_at, before_row, can_enter, rows_refused}
use Rattle.tri_raster.proofs.sweep.spans_of.Goals as goal

pub loop-z-init : goal.loop-z-init
loop-z-init c =
    let P : List Span → Type 0 = λ spans. AreSpansBefore c.args.setting.now c.args.tris.now 0 0 spans in
    record { at = c.in_ok-sweep.ensures c.args.tris.now; done = subst P (sym c.new-spans.ensures.items) (no_rows c.args.setting.now c.args.tris.now) }

pub row-requires-clause-triangles : goal.row-requires-clause-triangles
row-requires-clause-triangles c =
    let begin = begin_at c.args.tris.now c.args.setting.now.depth c.loop-z.z c.in_ok-lists.lists.items c.index.result.now c.as_slice-entering.result.now
    c.in_ok-lists.ensures c.loop-z-test.true c.index.ensures c.as_slice-entering.ensures in
    can_enter c.args.tris.now c.loop-z.z c.loop-z.sweep.active.items c.as_slice-entering.result.now c.requires.triangles c.loop-z.invariant.at.may begin

pub returns-in_err-row : goal.returns-in_err-row
returns-in_err-row c =
    let setting = c.args.setting.now in
    let tris = c.args.tris.now in
    let begin = begin_at tris setting.depth c.loop-z.z c.in_ok-lists.lists.items c.index.result.now c.as_slice-entering.result.now
    c.in_ok-lists.ensures c.loop-z-test.true c.index.ensures c.as_slice-entering.ensures in
    let before = before_row setting tris c.loop-z.z c.loop-z.sweep.active.items c.loop-z.sweep.bounds.items c.loop-z.sweep.columns.items
    c.as_slice-entering.result.now c.loop-z.spans.items c.loop-z.invariant begin c.loop-z-test.true in
    let p = err_from_is_err_and c.from_residual-in_err-row.result c.from_residual-in_err-row.ensures.1 in
    rows_refused setting tris c.loop-z.z setting.depth c.row.new.spans.items _ c.row.result c.from_residual-in_err-row.result c.in_err-row.field-0.0
    c.in_err-row.was (p.1 ∙ ap Err p.2) (c.row.ensures.spans setting tris before)

pub loop-z-preserved : goal.loop-z-preserved
loop-z-preserved c =
    let setting = c.args.setting.now in
    let tris = c.args.tris.now in
    let begin = begin_at tris setting.depth c.loop-z.z c.in_ok-lists.lists.items c.index.result.now c.as_slice-entering.result.now
    c.in_ok-lists.ensures c.loop-z-test.true c.index.ensures c.as_slice-entering.ensures in
    let before = before_row setting tris c.loop-z.z c.loop-z.sweep.active.items c.loop-z.sweep.bounds.items c.loop-z.sweep.columns.items
    c.as_slice-entering.result.now c.loop-z.spans.items c.loop-z.invariant begin c.loop-z-test.true in
    record { at = c.in_ok-row.ensures.at tris setting.width c.loop-z.invariant.at begin; done = c.in_ok-row.ensures.spans setting tris before }

pub returns : goal.returns
returns c =
    let setting = c.args.setting.now in
    let end : c.loop-z.z ≡ setting.depth = omega (arith, c.loop-z-test.false) in
    let Z : ℕ → Type 0 = λ z. AreSpansBefore setting c.args.tris.now 0 z c.loop-z.spans.items in
    let S : List Span → Type 0 = λ spans. AreSpansBefore setting c.args.tris.now 0 setting.depth spans in
    subst S (sym c.from_vec.ensures) (subst Z end c.loop-z.invariant.done)
