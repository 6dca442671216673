use Rattle.std.proofs.Common.{rules}
use Rattle.std.proofs.lemmas.Fn.{always_returns_same}
use Rattle.tile_links.proofs.PlaceOrder.{comes_before, places_order}
use Rattle.tile_links.proofs.rim.order_places.Goals as goal

pub returns-clause-order : goal.returns-clause-order
returns-clause-order c = c.sort_unstable_by.ensures.sorted comes_before places_order (always_returns_same _ _ _ (λ a r q k. search rules))
