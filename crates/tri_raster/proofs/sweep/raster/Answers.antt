use Rattle.std.proofs.Common.{◌≡◌, Err, ap, ◌∙◌, sym}
use Rattle.std.proofs.lemmas.Result.{err_from_is_err_and}
use Rattle.tri_raster.specs.declared.text.RasterRefusal.TheVariants as refusals
use Rattle.tri_raster.proofs.RasterLaws.{one_raster, many_or_few, raster_field}
use Rattle.tri_raster.proofs.SweepLaws.{all_rows, not_many}
use Rattle.tri_raster.proofs.sweep.raster.Goals as goal

pub returns-in_err-spans-clause-few : goal.returns-in_err-spans-clause-few
returns-in_err-spans-clause-few c field raster few is =
    let p = err_from_is_err_and c.from_residual.result c.from_residual.ensures.1 in
    let kind : p.0 ≡ refusals.TooManySpans = cc (p.1, is) in
    many_or_few c.args.setting.now c.args.tris.now field
    (not_many c.args.setting.now c.args.tris.now c.spans_of.result c.spans_of.ensures (c.in_err-spans.was ∙ ap Err (sym p.2 ∙ kind))) raster few

pub returns-clause-rules : goal.returns-clause-rules
returns-clause-rules c =
    raster_field c.args.setting.now c.args.tris.now _ c.requires.setting c.requires.triangles
    (all_rows c.args.setting.now c.args.tris.now c.in_ok-spans.spans c.in_ok-spans.ensures) c.in_ok-spans.ensures.few

pub returns-clause-one : goal.returns-clause-one
returns-clause-one c other raster =
    one_raster c.args.setting.now c.args.tris.now other _ raster (all_rows c.args.setting.now c.args.tris.now c.in_ok-spans.spans c.in_ok-spans.ensures)
