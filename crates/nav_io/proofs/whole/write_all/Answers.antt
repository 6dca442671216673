use Rattle.nav_io.proofs.Turns.{WritesSoFar-more}
use Rattle.nav_io.proofs.whole.write_all.Goals as goal

pub rest-preserved : goal.rest-preserved
rest-preserved g c =
    let wrote = c.in-Ok.ensures in
    WritesSoFar-more _ _ _ _ _ _ _ _ _ c.rest.invariant wrote.bound wrote.bytes wrote.cause.later
