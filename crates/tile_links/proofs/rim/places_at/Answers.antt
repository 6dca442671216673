use Rattle.std.proofs.Common.{take, drop, ◌∙◌, ap}
use Rattle.std.specs.List.{prefix_len}
use Rattle.std.proofs.lemmas.List.{take_rest}
use Rattle.tile_links.specs.RimPlaces.{is_at_place}
use Rattle.tile_links.proofs.PlaceOrder.{at_first, found_at, counted}
use Rattle.tile_links.proofs.rim.places_at.Goals as goal

pub returns : goal.returns
returns c =
    let places = c.args.places.now in
    let position = c.args.position in
    let level = c.args.level in
    let first = c.places_before-first.result in
    let point = c.places_before-first.ensures.point in
    let rest = take_rest places first in
    let place = counted (is_at_place position level) (drop first places) (at_first position level places first c.requires point.1) in
    ap (take c.count_at-count.result) rest
    ∙ ap (λ count. take count (drop first places)) (c.count_at-count.ensures.value ∙ ap (prefix_len (is_at_place position level)) rest)
    ∙ found_at position level places first (prefix_len (is_at_place position level) (drop first places)) point place
