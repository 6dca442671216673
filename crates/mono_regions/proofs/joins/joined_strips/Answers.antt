use Rattle.std.proofs.Common.{length, arith}
use Rattle.mesh_types.specs.StripPolygons.{strip_runs}
use Rattle.mono_regions.specs.Joining.{joined_from}
use Rattle.mono_regions.proofs.JoinLaws.{strips_few}
use Rattle.mono_regions.proofs.Tabled.{tabled_count, made_more, made_all}
use Rattle.mono_regions.proofs.joins.joined_strips.Goals as goal

pub overflow_cast-number : goal.overflow_cast-number
overflow_cast-number c =
    omega (
      arith,
      c.loop-number-test.true,
      c.len-number-end.ensures,
      tabled_count c.args.cells.now c.args.strips.now c.requires.strips,
      strips_few c.args.cells.now c.requires.strips.cut,
    )

pub joined_strip-requires-clause-there : goal.joined_strip-requires-clause-there
joined_strip-requires-clause-there c =
    omega (arith, c.loop-number-test.true, c.len-number-end.ensures, tabled_count c.args.cells.now c.args.strips.now c.requires.strips)

pub loop-number-preserved : goal.loop-number-preserved
loop-number-preserved c =
    made_more (joined_from (strip_runs c.args.cells.now)) c.loop-number.number c.loop-number.joined.items _ c.joined_strip.result c.in_ok-push.ensures.items
    c.joined_strip.ensures c.loop-number.invariant

pub returns : goal.returns
returns c =
    let count = tabled_count c.args.cells.now c.args.strips.now c.requires.strips in
    made_all (joined_from (strip_runs c.args.cells.now)) c.loop-number.number (length (strip_runs c.args.cells.now)) c.loop-number.joined.items
    (omega (arith, c.loop-number.auto, c.len-number-end.ensures, count)) (omega (arith, c.loop-number-test.false, c.len-number-end.ensures, count)) c.loop-number.invariant
