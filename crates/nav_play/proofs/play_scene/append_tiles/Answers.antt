use Rattle.std.proofs.Common.{refl}
use Rattle.nav_play.proofs.Writing.{all_numbered, one_numbered, stands_further, stands_same}
use Rattle.nav_ground.specs.Tiling.{tile_count}
use Rattle.nav_play.specs.Scenes.{tile_text}
use Rattle.nav_play.proofs.play_scene.append_tiles.Goals as goal

pub loop-tile-init : goal.loop-tile-init
loop-tile-init c = (refl, stands_same _ _ refl)

pub loop-tile-preserved : goal.loop-tile-preserved
loop-tile-preserved c = (
  one_numbered (tile_count c.args.setting.now) _ c.loop-tile.tile c.loop-tile.out.items _ (tile_text c.args.setting.now) _ c.tiles-tile-end.ensures c.loop-tile.invariant.0
      c.loop-tile-test.true c.in_ok-append_tile.ensures.ok,
  stands_further _ _ _ c.loop-tile.invariant.1 c.in_ok-append_tile.ensures.front,
)

pub returns-clause-ok : goal.returns-clause-ok
returns-clause-ok c =
    all_numbered (tile_count c.args.setting.now) _ c.loop-tile.tile _ _ (tile_text c.args.setting.now) c.tiles-tile-end.ensures c.loop-tile.invariant.0 c.loop-tile-test.false

pub returns-in_err-append_tile-clause-front : goal.returns-in_err-append_tile-clause-front
returns-in_err-append_tile-clause-front c = stands_further _ _ _ c.loop-tile.invariant.1 c.in_err-append_tile.ensures.front

pub returns-clause-front : goal.returns-clause-front
returns-clause-front c = c.loop-tile.invariant.1
