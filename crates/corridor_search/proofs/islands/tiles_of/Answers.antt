use Rattle.corridor_search.specs.Islands.{IsReached}
use Rattle.corridor_search.proofs.EachLink.{one-more}
use Rattle.corridor_search.proofs.islands.tiles_of.Goals as goal

pub loop-at-preserved : goal.loop-at-preserved
loop-at-preserved c =
    one-more (IsReached c.add_tile.new.tiles.items) c.args.island.now c.loop-at.at-index _ c.loop-at-test.true
    (λ k d below. record { tile = c.in_ok-add_tile.ensures.kept _ (c.loop-at.invariant k d below).tile })
    (record { tile = c.in_ok-add_tile.ensures.there })
