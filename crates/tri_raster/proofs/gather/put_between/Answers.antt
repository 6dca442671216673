use Rattle.std.proofs.Common.{arith}
use Rattle.tri_raster.proofs.Crossed.{no_lines}
use Rattle.tri_raster.proofs.gather.put_between.Goals as goal

-- src/gather.rt:83:1
pub returns-then-a-b-clause-about : goal.returns-then-a-b-clause-about
returns-then-a-b-clause-about c = (c.put_crossings.ensures.about, no_lines c.args.b.now c.args.a.now c.requires.second c.requires.first (omega (arith, c.if-a-b.true)) c.put_crossings.new.bounds)

-- src/gather.rt:83:1
pub returns-else-a-b-clause-about : goal.returns-else-a-b-clause-about
returns-else-a-b-clause-about c =
    (no_lines c.args.a.now c.args.b.now c.requires.first c.requires.second (omega (arith, c.if-a-b.false)) c.put_crossings-else-a-b.new.bounds, c.put_crossings-else-a-b.ensures.about)
