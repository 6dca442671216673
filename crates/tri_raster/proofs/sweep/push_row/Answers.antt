use Rattle.std.proofs.Common.{◌≡◌, ◌<◌, Err, [], length, get_or, ap, ◌∙◌, arith}
use Rattle.std.proofs.lemmas.List.{get_or_default}
use Rattle.std.proofs.lemmas.Result.{err_from_is_err_and}
use Rattle.tri_raster.proofs.SweepLaws.{columns_more, columns_refused, columns_all}
use Rattle.tri_raster.proofs.sweep.push_row.Goals as goal

pub returns-in_err-push_spans-clause-spans : goal.returns-in_err-push_spans-clause-spans
returns-in_err-push_spans-clause-spans c setting tris row =
    let p = err_from_is_err_and c.from_residual.result c.from_residual.ensures.1 in
    let refused : c.from_residual.result ≡ Err c.in_err-push_spans.field-0.0 = p.1 ∙ ap Err p.2 in
    let columns = c.loop-x.columns in
    let there : c.loop-x.x < length columns = omega (arith, c.loop-x-test.true, c.loop-x.invariant.same) in
    columns_refused c.args.climb c.loop-x.x c.args.z c.args.columns.now columns (get_or columns c.loop-x.x c.index-columns-x.result)
    c.args.spans.now.items c.loop-x.spans.items c.push_spans.new.spans.items c.loop-x.invariant
    (omega (arith, c.loop-x-test.true, c.loop-x.invariant.same)) (get_or_default columns c.loop-x.x c.index-columns-x.result [] there) setting tris row _ _
    c.push_spans.result c.from_residual.result c.in_err-push_spans.field-0.0 c.in_err-push_spans.was refused c.push_spans.ensures

pub loop-x-preserved : goal.loop-x-preserved
loop-x-preserved c =
    let columns = c.loop-x.columns in
    let there : c.loop-x.x < length columns = omega (arith, c.loop-x-test.true, c.loop-x.invariant.same) in
    columns_more c.args.climb c.loop-x.x c.args.z c.args.columns.now columns c.push_spans.new.column c.clear.new.self
    (get_or columns c.loop-x.x c.index-columns-x.result) c.args.spans.now.items c.loop-x.spans.items c.push_spans.new.spans.items c.loop-x.invariant
    (omega (arith, c.loop-x-test.true, c.loop-x.invariant.same)) (get_or_default columns c.loop-x.x c.index-columns-x.result [] there)
    c.in_ok-push_spans.ensures c.clear.ensures

pub returns-clause-spans : goal.returns-clause-spans
returns-clause-spans c =
    let end : c.loop-x.x ≡ length c.args.columns.now = omega (arith, c.loop-x-test.false, c.loop-x.invariant.same) in
    columns_all c.args.climb c.loop-x.x c.args.z c.args.columns.now c.loop-x.columns c.args.spans.now.items c.loop-x.spans.items c.loop-x.invariant end
