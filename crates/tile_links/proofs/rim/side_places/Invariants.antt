use Rattle.std.proofs.Common.{◌≡◌}
use Rattle.std.specs.List.{flat_map, range_with_len}
use Rattle.tile_links.specs.RimPlaces.{places_along}
use Rattle.tile_links.proofs.rim.side_places.Given as goal

-- the places of the entries so far
abbrev pub invariant-loop-number : goal.invariant-loop-number
invariant-loop-number l = l.places.items ≡ flat_map (places_along l.side l.rim) (range_with_len 0 l.number)
