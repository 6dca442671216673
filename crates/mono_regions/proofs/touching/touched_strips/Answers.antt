use Rattle.std.proofs.Common.{length, ap, ◌∙◌, arith}
use Rattle.nav_ground.specs.Directions.{number}
use Rattle.mesh_types.specs.StripPolygons.{strip_runs}
use Rattle.mono_regions.specs.Seeing.{touched_by}
use Rattle.mono_regions.specs.Joining.{touched_from}
use Rattle.mono_regions.proofs.Tabled.{tabled_count, tabled_run, tabled_indices, made_more, made_all}
use Rattle.mono_regions.proofs.touching.touched_strips.Goals as goal

pub touched-requires-clause-run : goal.touched-requires-clause-run
touched-requires-clause-run c =
    tabled_indices c.args.cells.now c.args.strips.now c.requires.strips c.loop-number.number _ c.list-run.ensures
    (omega (arith, c.loop-number-test.true, c.len-number-end.ensures, tabled_count c.args.cells.now c.args.strips.now c.requires.strips))

pub loop-number-preserved : goal.loop-number-preserved
loop-number-preserved c =
    made_more (touched_from c.args.cells.now (number c.args.dir)) c.loop-number.number c.loop-number.seen.items _ c.touched.result c.in_ok-push.ensures.items
    (c.touched.ensures ∙ ap (touched_by c.args.cells.now (number c.args.dir)) (tabled_run c.args.cells.now c.args.strips.now c.requires.strips c.loop-number.number _ c.list-run.ensures))
    c.loop-number.invariant

pub returns : goal.returns
returns c =
    let count = tabled_count c.args.cells.now c.args.strips.now c.requires.strips in
    made_all (touched_from c.args.cells.now (number c.args.dir)) c.loop-number.number (length (strip_runs c.args.cells.now)) c.loop-number.seen.items
    (omega (arith, c.loop-number.auto, c.len-number-end.ensures, count)) (omega (arith, c.loop-number-test.false, c.len-number-end.ensures, count)) c.loop-number.invariant
