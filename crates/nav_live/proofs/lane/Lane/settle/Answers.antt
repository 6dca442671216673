use Rattle.std.proofs.Common.{length, subst, sym, arith}
use Rattle.turn_lock.specs.Locks.{PassView}
use Rattle.nav_ground.specs.declared.history.Entry.{Entry}
use Rattle.nav_live.specs.Roots.{RootView}
use Rattle.nav_live.specs.declared.lane.Lane.{Lane}
use Rattle.nav_live.specs.ActRules.{Tells}
use Rattle.nav_live.specs.Waiting.{HasWaited}
use Rattle.nav_live.proofs.LaneLaws.{learnt_since, waited_more, waits_on}
use Rattle.nav_live.proofs.PassLaws.{covers_before}
use Rattle.nav_live.proofs.lane.Lane.settle.Goals as goal

pub returns-then-branch-clause-ran : goal.returns-then-branch-clause-ran
returns-then-branch-clause-ran g c =
    let between : Lane = record c.loop.self { pass = c.publish_all.new.pass } in
    let waited = waited_more c.args.context.now.lock.now c.args.self.now c.loop.self c.aim-aimed.new.pass c.publish_all.new.pass c.loop.invariant c.aim-aimed.ensures.saw c.in_ok-told.ensures.saw in
    let ran = rw c.if-branch.true at c.in_ok-settle_at.ensures.ran in
    λ spoken keeps. ran c.args.context.now.lock.now spoken (waits_on c.args.context.now.lock.now spoken c.args.self.now between keeps waited) c.in_ok-told.ensures.told.pair

pub returns-then-branch-clause-settled : goal.returns-then-branch-clause-settled
returns-then-branch-clause-settled g c =
    let lock = c.args.context.now.lock.now in
    let told = c.in_ok-told.told in
    let between : Lane = record c.loop.self { pass = c.publish_all.new.pass } in
    let waited = waited_more lock c.args.self.now c.loop.self c.aim-aimed.new.pass c.publish_all.new.pass c.loop.invariant c.aim-aimed.ensures.saw c.in_ok-told.ensures.saw in
    let long = c.in_ok-settle_at.ensures.covers c.if-branch.true in
    record {
      told = told;
      tells = subst (λ (pass : PassView RootView Entry). Tells lock.root pass.seen told) (sym c.settle_at.ensures.pass) c.in_ok-told.ensures.told;
      covers = covers_before lock c.args.self.now.pass c.loop.self.pass (length told.entries) c.loop.invariant.saw (omega (arith, c.aim-aimed.ensures.covers, long));
      learns = learnt_since lock told c.args.self.now between c.settle_at.new.self waited (c.in_ok-settle_at.ensures.learns c.if-branch.true);
    }

pub loop-preserved : goal.loop-preserved
loop-preserved g c =
    let waited = waited_more c.args.context.now.lock.now c.args.self.now c.loop.self c.aim-aimed.new.pass c.publish_all.new.pass c.loop.invariant c.aim-aimed.ensures.saw c.in_ok-told.ensures.saw in
    let same = rw c.if-branch.false at c.in_ok-settle_at.ensures.ran in
    subst (HasWaited c.args.context.now.lock.now c.args.self.now) (sym same) waited
