use Rattle.std.proofs.Common.{rules}
use Rattle.std.proofs.lemmas.Fn.{always_returns_same}
use Rattle.tile_links.specs.RimPlaces.{is_before_place}
use Rattle.tile_links.proofs.PlaceOrder.{before_first}
use Rattle.tile_links.proofs.rim.places_before.Goals as goal

pub returns-then-are_after-clause-point : goal.returns-then-are_after-clause-point
returns-then-are_after-clause-point c = (c.are_before.ensures.0 c.if-are_before.true, c.are_after.ensures.0 c.if-are_after.true)

pub returns-else-are_before-clause-point : goal.returns-else-are_before-clause-point
returns-else-are_before-clause-point c =
    c.partition_point.ensures.partitioned (is_before_place c.args.position c.args.level) (always_returns_same _ _ _ (λ a r q k. search rules))
    (before_first c.args.position c.args.level c.args.places.now c.requires)
