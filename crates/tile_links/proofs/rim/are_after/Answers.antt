use Rattle.std.proofs.Common.{arith}
use Rattle.tile_links.proofs.PlaceOrder.{first_tells}
use Rattle.tile_links.proofs.rim.are_after.Goals as goal

pub returns : goal.returns
returns c =
    first_tells c.args.position c.args.level c.args.places.now c.args.first c.is_before_place.result c.requires
    (omega (arith, c.if-places-first.false)) c.is_before_place.ensures
