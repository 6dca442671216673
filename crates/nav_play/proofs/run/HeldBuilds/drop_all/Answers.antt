use Rattle.std.proofs.Common.{List, length, replicate, ap, ◌∙◌, arith, Option, None}
use Rattle.nav_book.specs.declared.book.TileResult.{TileResult}
use Rattle.nav_play.proofs.Lists.{all_emptied, one_emptied}
use Rattle.nav_play.proofs.run.HeldBuilds.drop_all.Goals as goal

pub loop-worker-preserved : goal.loop-worker-preserved
loop-worker-preserved c =
    one_emptied c.self.inside.held.items c.loop-worker.self-inside.held.items c.loop-worker.worker c.loop-worker.invariant
    (omega (arith, c.loop-worker-test.true, c.len-worker-end.ensures))

pub returns : goal.returns
returns c =
    all_emptied c.self.inside.held.items c.loop-worker.self-inside.held.items c.loop-worker.worker c.loop-worker.invariant
    (omega (arith, c.loop-worker-test.false, c.len-worker-end.ensures))
    ∙ ap (λ (zs : List (Option TileResult)). replicate (length zs) None) c.self.view_is
