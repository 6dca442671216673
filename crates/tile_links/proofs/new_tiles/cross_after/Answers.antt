use Rattle.std.proofs.Common.{◌++◌, ◌∷◌, [], take, ap, subst, sym, ◌∙◌}
use Rattle.std.specs.Prelude.{All}
use Rattle.std.proofs.lemmas.List.{take_all, take_more}
use Rattle.std.proofs.lemmas.List.Elements.{All-push, All-weaker}
use Rattle.tile_links.specs.NearTiles.{IsMarked}
use Rattle.tile_links.specs.NewTiles.{New}
use Rattle.tile_links.proofs.NearTiles.{IsMarked-kept}
use Rattle.tile_links.proofs.RelinkedTiles.{relinked_all}
use Rattle.tile_links.proofs.new_tiles.cross_after.Goals as goal

pub loop-new-preserved : goal.loop-new-preserved
loop-new-preserved c =
    let setting = c.args.tiled.setting.now in
    let news = c.args.news.now in
    let i = c.loop-new.new-index in
    let after = c.relink_near.new.made.done.items in
    record {
      made = c.in_ok-relink_near.ensures.made;
      marked = subst (All (λ (new : New). IsMarked setting after new.0))
          (sym (take_more news i c.new-item.result c.loop-new-test.true ∙ ap (λ (new : New). take i news ++ new ∷ []) (sym c.new-item.is)))
          (All-push (λ (new : New). IsMarked setting after new.0) (take i news) c.new-item.result
          (All-weaker (λ (new : New). IsMarked setting c.loop-new.made.done.items new.0) (λ (new : New). IsMarked setting after new.0)
          (λ new. IsMarked-kept setting c.loop-new.made.done.items after new.0 c.in_ok-relink_near.ensures.kept) (take i news) c.loop-new.invariant.marked)
          c.in_ok-relink_near.ensures.marked);
    }

pub returns : goal.returns
returns c =
    relinked_all c.args.tiled.setting.now c.args.news.now c.args.tiled.tiles.now c.args.cross.now c.loop-new.made.cross c.loop-new.made.done.items c.requires.tiles
    c.loop-new.invariant.made
    (subst (All (λ (new : New). IsMarked c.args.tiled.setting.now c.loop-new.made.done.items new.0))
    (take_all c.loop-new.new-index c.args.news.now c.loop-new-test.false) c.loop-new.invariant.marked)
    c.requires.kept
