use Rattle.std.proofs.Common.{arith}
use Rattle.nav_live.proofs.Catching.{all_seen, none_yet, one_more, pair_kept}
use Rattle.nav_live.proofs.run.catch_up.Goals as goal

pub loop-eye-init : goal.loop-eye-init
loop-eye-init g c = none_yet _ _

pub see_all-requires : goal.see_all-requires
see_all-requires g c =
    pair_kept c.args.book.now.pair _ c.loop-eye.eye-index _ _ _ c.requires c.loop-eye.invariant c.loop-eye-test.true

pub loop-eye-preserved : goal.loop-eye-preserved
loop-eye-preserved g c = one_more _ c.loop-eye.eye-index _ _ _ _ c.loop-eye.invariant (omega (arith, c.loop-eye-test.true, c.loop-eye.auto.eyes)) c.in_ok-see_all.ensures.before

pub returns : goal.returns
returns g c = all_seen _ c.loop-eye.eye-index _ _ c.loop-eye.invariant c.loop-eye-test.false
