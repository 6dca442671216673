use Rattle.std.proofs.Common.{ap, ◌∙◌, List, sym}
use Rattle.std.proofs.lemmas.List.{map-id, take_all}
use Rattle.tile_links.specs.NewTiles.{New, tiles_after}
use Rattle.tile_links.proofs.RelinkedTiles.{tiles_step}
use Rattle.tile_links.proofs.new_tiles.tiles_after.Goals as goal

pub loop-new-init : goal.loop-new-init
loop-new-init c = c.in_ok-after.ensures ∙ sym (map-id c.args.tiles.now)

pub loop-new-preserved : goal.loop-new-preserved
loop-new-preserved c =
    tiles_step c.args.news.now c.args.tiles.now c.loop-new.after c.set.new.self c.loop-new.new-index c.new-item.result c.in_ok-share.field-0
    c.requires.rising c.requires.order c.loop-new-test.true c.loop-new.invariant c.new-item.is c.in_ok-share.ensures c.in_ok-set.ensures.ok

pub returns : goal.returns
returns c = c.loop-new.invariant ∙ ap (λ (news : List New). tiles_after news c.args.tiles.now) (take_all c.loop-new.new-index c.args.news.now c.loop-new-test.false)
