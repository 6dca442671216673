use Rattle.std.proofs.Common.{refl}
use Rattle.nav_play.proofs.Writing.{all_written, one_written, stands_further, stands_same}
use Rattle.nav_play.proofs.meshes.append_all.Goals as goal

pub loop-thing-init : goal.loop-thing-init
loop-thing-init g c = (refl, stands_same _ _ refl)

pub loop-thing-preserved : goal.loop-thing-preserved
loop-thing-preserved g c = (
  one_written c.args.things.now c.loop-thing.thing-index c.loop-thing.out.items _ g.T.SceneItem.text _ _ _ c.loop-thing.invariant.0 c.loop-thing-test.true
      c.thing-item.is c.in_ok-append_to.ensures.ok,
  stands_further _ _ _ c.loop-thing.invariant.1 c.in_ok-append_to.ensures.front,
)

pub returns-clause-ok : goal.returns-clause-ok
returns-clause-ok g c = all_written c.args.things.now c.loop-thing.thing-index _ _ g.T.SceneItem.text c.loop-thing.invariant.0 c.loop-thing-test.false

pub returns-in_err-append_to-clause-front : goal.returns-in_err-append_to-clause-front
returns-in_err-append_to-clause-front g c = stands_further _ _ _ c.loop-thing.invariant.1 c.in_err-append_to.ensures.front

pub returns-clause-front : goal.returns-clause-front
returns-clause-front g c = c.loop-thing.invariant.1
