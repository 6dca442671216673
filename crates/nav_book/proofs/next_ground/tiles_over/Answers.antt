use Rattle.std.proofs.Common.{◌≡◌, ◌∙◌, ap, arith, get_or}
use Rattle.std.proofs.lemmas.List.{get_or_default}
use Rattle.nav_ground.specs.Tiling.{tile_count}
use Rattle.nav_book.specs.LevelResults.{tile_under}
use Rattle.nav_book.proofs.NextGrounds.{built_more, stored_limits}
use Rattle.nav_book.proofs.next_ground.tiles_over.Goals as goal

pub tile_over-requires-clause-shapes : goal.tile_over-requires-clause-shapes
tile_over-requires-clause-shapes g c =
    let tile = get_or c.args.changed.now c.loop-tile.tile-index 0 in
    let there = c.requires.ground.there c.loop-tile.tile-index 0 c.loop-tile-test.true in
    rw (c.as_slice.ensures, c.stored.ensures)
    (stored_limits c.args.queue.now c.args.ground.now c.requires.rules (record { built = c.requires.rest.built; shown = c.requires.rest.shown })
    c.requires.ground.ground tile there)

pub loop-tile-preserved : goal.loop-tile-preserved
loop-tile-preserved g c =
    let tile = get_or c.args.changed.now c.loop-tile.tile-index 0 in
    let there = c.requires.ground.there c.loop-tile.tile-index 0 c.loop-tile-test.true in
    let count : tile_count c.args.ground.now.setting ≡ tile_count c.args.queue.now.ground.setting = ap tile_count c.requires.ground.ground.setting in
    record {
      built = built_more c.args.ground.now c.args.queue.now.stored c.args.changed.now c.loop-tile.tile-index tile c.in_ok-mesh.mesh c.loop-tile.news c.put.new.self
          c.loop-tile.invariant.built c.loop-tile-test.true (get_or_default c.args.changed.now c.loop-tile.tile-index 0 tile c.loop-tile-test.true) (omega (arith, there, count))
          (c.in_ok-mesh.ensures.mesh ∙ ap (tile_under c.args.ground.now tile) (c.as_slice.ensures ∙ c.stored.ensures)) c.put.ensures;
      steps = omega (arith, c.loop-tile.invariant.steps, c.in_ok-mesh.ensures.step);
    }
