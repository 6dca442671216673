use Rattle.std.proofs.Common.{rules, Ok, Err}
use Rattle.std.proofs.lemmas.Fn.{always_returns_same}
use Rattle.tile_links.specs.NewTiles.{New}
use Rattle.tile_links.proofs.ReplacedTiles.{searched_new}
use Rattle.tile_links.proofs.new_tiles.new_tile.Goals as goal

pub returns-in-Ok : goal.returns-in-Ok
returns-in-Ok c =
    searched_new c.args.news.now c.args.number (Ok c.in-Ok.place) c.requires c.in-Ok.ensures.bound
    (c.in-Ok.ensures.position (λ (new : New). new.0) (always_returns_same _ _ _ (λ a r f k. search rules))) _

pub returns-in-Err : goal.returns-in-Err
returns-in-Err c =
    searched_new c.args.news.now c.args.number (Err c.in-Err.field-0) c.requires c.in-Err.ensures.bound
    (c.in-Err.ensures.position (λ (new : New). new.0) (always_returns_same _ _ _ (λ a r f k. search rules)))
