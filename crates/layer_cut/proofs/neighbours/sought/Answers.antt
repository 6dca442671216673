use Rattle.std.proofs.Common.{rules}
use Rattle.std.proofs.lemmas.Fn.{always_returns_same}
use Rattle.nav_ground.specs.declared.cell.Cell.{Cell}
use Rattle.layer_cut.specs.Neighbours.{is_before}
use Rattle.layer_cut.proofs.PlacesFound.{places_parted, place_found}
use Rattle.layer_cut.proofs.neighbours.sought.Goals as goal

pub returns-clause-within : goal.returns-clause-within
returns-clause-within c =
    (place_found c.args.cells.now c.args.place c.partition_point.result c.requires.cells c.requires.there
    (c.partition_point.ensures.partitioned (λ (cell : Cell). is_before cell.at c.args.place) (always_returns_same _ _ _ (λ a r q k. search rules))
    (places_parted c.args.cells.now c.args.place c.requires.cells))).within

pub returns-clause-at : goal.returns-clause-at
returns-clause-at c =
    (place_found c.args.cells.now c.args.place c.partition_point.result c.requires.cells c.requires.there
    (c.partition_point.ensures.partitioned (λ (cell : Cell). is_before cell.at c.args.place) (always_returns_same _ _ _ (λ a r q k. search rules))
    (places_parted c.args.cells.now c.args.place c.requires.cells))).at
