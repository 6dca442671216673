use Rattle.std.proofs.Common.{arith}
use Rattle.tile_links.proofs.PlaceOrder.{last_tells}
use Rattle.tile_links.proofs.rim.are_before.Goals as goal

pub returns : goal.returns
returns c =
    last_tells c.args.position c.args.level c.args.places.now c.args.count c.is_before_place.result c.requires.order
    (omega (arith, c.if-count-eq0.false)) c.requires.there c.is_before_place.ensures
