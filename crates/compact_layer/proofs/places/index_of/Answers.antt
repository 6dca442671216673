use Rattle.std.proofs.Common.{rules}
use Rattle.std.proofs.lemmas.Fn.{always_returns_same}
use Rattle.nav_ground.specs.declared.cell.Cell.{Cell}
use Rattle.compact_layer.specs.Places.{is_before}
use Rattle.compact_layer.proofs.Neighbours.{first_before, place_is}
use Rattle.compact_layer.proofs.places.index_of.Goals as goal

pub returns : goal.returns
returns c =
    let point = c.partition_point.ensures.partitioned (λ (cell : Cell). is_before cell.at c.args.at) (always_returns_same _ _ _ (λ a r q k. search rules))
    (first_before c.args.cells.now c.args.at c.requires.rules) in
    let place = place_is c.args.cells.now c.args.at c.partition_point.result c.requires.rules c.requires.there point in
    record { bound = place.0; at = place.1 }
