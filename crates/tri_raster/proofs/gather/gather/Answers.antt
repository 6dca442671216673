use Rattle.std.proofs.Common.{◌<◌, arith, length}
use Rattle.std.specs.Prelude.{slice_index_or}
use Rattle.tri_raster.specs.declared.triangle.Mark.{Mark}
use Rattle.tri_raster.specs.Spots.{IsSpotOf}
use Rattle.tri_raster.specs.Bounds.{AreAbout}
use Rattle.tri_raster.proofs.Crossed.{no_lines}
use Rattle.tri_raster.proofs.Gathered.{no_mark, first_more, spots_later, crossings_later, pairs_more, all_first}
use Rattle.tri_raster.proofs.Puts.{wider_then}
use Rattle.tri_raster.proofs.gather.gather.Goals as goal

pub loop-i-preserved : goal.loop-i-preserved
loop-i-preserved c =
    let marks = c.args.marks.now in
    let i = c.loop-i.i in
    let within : i < length marks = omega (arith, c.loop-i-test.true) in
    let wider = wider_then _ _ _ c.put_mark.ensures.wider c.put_from.ensures.wider in
    record {
      wider = wider_then _ _ _ c.loop-i.invariant.wider wider;
      filled = λ tri z all x before. c.put_from.ensures.filled tri z (all i no_mark within) (all_first (λ (mark : Mark). IsSpotOf tri z mark.spot) marks i (omega (arith, within)) all) x
          (c.put_mark.ensures.filled tri z (all i no_mark within) x (c.loop-i.invariant.filled tri z all x before));
      about = first_more (λ (mark : Mark). AreAbout mark.spot c.put_from.new.bounds) marks i within
          (λ j d less. spots_later _ _ _ wider (c.loop-i.invariant.about j d less))
          (spots_later _ _ _ c.put_from.ensures.wider c.put_mark.ensures.about);
      crossings = pairs_more marks i c.put_from.new.bounds within
          (λ j k d e less less'. crossings_later _ _ _ _ wider (c.loop-i.invariant.crossings j k d e less less'))
          c.put_from.ensures.about
          (no_lines (slice_index_or marks i no_mark) (slice_index_or marks i no_mark) (c.requires.marks i no_mark within) (c.requires.marks i no_mark within) (omega arith) c.put_from.new.bounds);
    }

pub returns-clause-crossings : goal.returns-clause-crossings
returns-clause-crossings c i d within j e reached = c.loop-i.invariant.crossings i j d e (omega (arith, within, c.loop-i-test.false)) (omega (arith, reached, c.loop-i-test.false))
