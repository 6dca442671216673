use Rattle.std.proofs.Common.{arith}
use Rattle.tri_raster.specs.declared.triangle.Mark.{Mark}
use Rattle.tri_raster.specs.Bounds.{AreAboutBetween}
use Rattle.tri_raster.proofs.Gathered.{no_mark, first_more, between_later}
use Rattle.tri_raster.proofs.Puts.{wider_then}
use Rattle.tri_raster.proofs.gather.put_from.Goals as goal

pub loop-other-preserved : goal.loop-other-preserved
loop-other-preserved c =
    let others = c.args.others.now in
    record {
      wider = wider_then _ _ _ c.loop-other.invariant.wider c.put_between.ensures.wider;
      filled = λ tri z p all x before. c.put_between.ensures.filled tri z p (all c.loop-other.other-index no_mark c.loop-other-test.true) x (c.loop-other.invariant.filled tri z p all x before);
      about = first_more (λ (other : Mark). AreAboutBetween c.args.mark.now.spot other.spot c.put_between.new.bounds) others c.loop-other.other-index c.loop-other-test.true
          (λ j d less. between_later _ _ _ _ c.put_between.ensures.wider (c.loop-other.invariant.about j d less)) c.put_between.ensures.about;
    }

pub returns-clause-about : goal.returns-clause-about
returns-clause-about c i d within = c.loop-other.invariant.about i d (omega (arith, within, c.loop-other-test.false))
