use Rattle.std.proofs.Common.{◌≡◌, ◌++◌, map}
use Rattle.std.specs.List.{range_with_len}
use Rattle.tile_links.specs.RimPlaces.{place_of}
use Rattle.tile_links.proofs.rim.push_entry_places.Given as goal

-- the places so far
abbrev pub invariant-loop-place : goal.invariant-loop-place
invariant-loop-place l = l.places.items ≡ l.initial.places.items ++ map (place_of l.number l.entry) (range_with_len 0 l.place)
