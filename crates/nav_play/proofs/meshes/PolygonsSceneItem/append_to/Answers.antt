use Rattle.std.proofs.Common.{refl, arith}
use Rattle.nav_play.specs.Scenes.{polygon_text}
use Rattle.nav_play.proofs.Writing.{all_written, one_written, stands_further, stands_same}
use Rattle.nav_play.proofs.meshes.PolygonsSceneItem.append_to.Goals as goal

pub loop-place-init : goal.loop-place-init
loop-place-init c = (refl, stands_same _ _ refl)

pub loop-place-preserved : goal.loop-place-preserved
loop-place-preserved c = (
  one_written c.args.self.now c.loop-place.place c.loop-place.out.items _ polygon_text c.at.result c.at.result _ c.loop-place.invariant.0
      (omega (arith, c.loop-place-test.true, c.len-place-end.ensures)) (c.at.ensures c.at.result) c.in_ok-append_to.ensures.ok,
  stands_further _ _ _ c.loop-place.invariant.1 c.in_ok-append_to.ensures.front,
)

pub returns-clause-ok : goal.returns-clause-ok
returns-clause-ok c =
    all_written c.args.self.now c.loop-place.place _ _ polygon_text c.loop-place.invariant.0 (omega (arith, c.loop-place-test.false, c.len-place-end.ensures))

pub returns-in_err-append_to-clause-front : goal.returns-in_err-append_to-clause-front
returns-in_err-append_to-clause-front c = stands_further _ _ _ c.loop-place.invariant.1 c.in_err-append_to.ensures.front

pub returns-clause-front : goal.returns-clause-front
returns-clause-front c = c.loop-place.invariant.1
