use Rattle.tile_links.specs.Loose.{loose_over}
use Rattle.tile_links.proofs.KeptLinks.{none_known}
use Rattle.tile_links.proofs.join.cross_links.Goals as goal

pub links_with-requires-clause-others : goal.links_with-requires-clause-others
links_with-requires-clause-others c =
    none_known (loose_over c.args.setting.now c.args.tiles.now c.args.tile.now) c.new.result.items c.new.ensures.items
