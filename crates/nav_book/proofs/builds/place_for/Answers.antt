use Rattle.std.proofs.Common.{rules}
use Rattle.std.proofs.lemmas.Fn.{always_returns_same}
use Rattle.tile_links.specs.NewTiles.{New}
use Rattle.nav_book.proofs.FreshLists.{searched}
use Rattle.nav_book.proofs.builds.place_for.Goals as goal

pub returns : goal.returns
returns c =
    searched c.args.news.now c.args.tile c.binary_search_by_key.result c.requires c.binary_search_by_key.ensures.bound
    (c.binary_search_by_key.ensures.position (λ (new : New). new.0) (always_returns_same _ _ _ (λ a r f k. search rules)))
