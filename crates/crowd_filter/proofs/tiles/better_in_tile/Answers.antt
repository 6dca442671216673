use Rattle.crowd_filter.proofs.PlacingLaws.{tile_more}
use Rattle.crowd_filter.proofs.tiles.better_in_tile.Goals as goal

pub loop-index-preserved : goal.loop-index-preserved
loop-index-preserved c =
    tile_more c.args.mesh.now c.args.agent.now c.args.tile c.loop-index.index c.args.had c.loop-index.found c.better_of-found.result c.loop-index.invariant
    c.better_of-found.ensures
