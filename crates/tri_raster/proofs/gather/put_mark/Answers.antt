use Rattle.std.proofs.Common.{arith}
use Rattle.tri_raster.proofs.Noted.{once_about, both_about, once_filled, both_filled}
use Rattle.tri_raster.proofs.gather.put_mark.Goals.{else-mark-via-then-mark+else-mark-gt0, else-mark-via-else-mark}
use Rattle.tri_raster.proofs.gather.put_mark.Goals as goal

-- src/gather.rt:38:1
pub returns-then-mark-gt0-clause-filled : goal.returns-then-mark-gt0-clause-filled
returns-then-mark-gt0-clause-filled c = both_filled c.args.mark.now c.requires c.args.bounds.now _ _ c.put.ensures c.put-then-mark-gt0.ensures c.if-mark.true c.if-mark-gt0.true

-- src/gather.rt:38:1
pub returns-then-mark-gt0-clause-about : goal.returns-then-mark-gt0-clause-about
returns-then-mark-gt0-clause-about c = both_about c.args.mark.now c.requires c.args.bounds.now _ _ c.put.ensures c.put-then-mark-gt0.ensures

-- src/gather.rt:38:1
pub returns-else-mark-clause-filled : goal.returns-else-mark-clause-filled
returns-else-mark-clause-filled c = once_filled c.args.mark.now c.requires c.args.bounds.now _ c.put.ensures

-- src/gather.rt:38:1
pub returns-else-mark-clause-about : goal.returns-else-mark-clause-about
returns-else-mark-clause-about c = once_about c.args.mark.now c.requires c.args.bounds.now _ c.put.ensures
    (λ level some. elim c.else-mark.branch [ else-mark-via-then-mark+else-mark-gt0 w ↦ omega (arith, w.if-mark-gt0.false, some) | else-mark-via-else-mark w ↦ absurd (w.if-mark.false level) ])
