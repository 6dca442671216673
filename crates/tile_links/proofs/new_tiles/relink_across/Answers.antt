use Rattle.std.proofs.Common.{sym}
use Rattle.nav_ground.specs.Directions.{number}
use Rattle.nav_ground.proofs.DirectionLaws.{number-below}
use Rattle.tile_links.proofs.TilesAcross.{across_there}
use Rattle.tile_links.proofs.new_tiles.relink_across.Goals as goal

pub relink-requires-clause-there : goal.relink-requires-clause-there
relink-requires-clause-there c =
    across_there c.args.tiled.setting.now c.args.over.0 (number c.args.over.1) c.in-Some.other c.requires.there (number-below c.args.over.1) (sym c.in-Some.ensures)
