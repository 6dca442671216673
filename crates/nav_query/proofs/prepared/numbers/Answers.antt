use Rattle.std.proofs.Common.{[], ◌∷◌, ◌++◌, ap, map, arith, ◌∙◌, sym}
use Rattle.std.proofs.lemmas.List.{map_more, take_all}
use Rattle.tile_links.specs.NewTiles.{New}
use Rattle.nav_query.proofs.prepared.numbers.Goals as goal

pub loop-new-preserved : goal.loop-new-preserved
loop-new-preserved c =
    c.in_ok-push.ensures.items ∙ (λ i. c.loop-new.invariant i ++ (c.new-item.is i).0 ∷ [])
    ∙ sym (map_more (λ (new : New). new.0) c.args.news.now c.loop-new.new-index c.new-item.result c.loop-new-test.true)

pub returns : goal.returns
returns c = c.loop-new.invariant ∙ ap (map (λ (new : New). new.0)) (take_all c.loop-new.new-index c.args.news.now (omega (arith, c.loop-new-test.false)))
