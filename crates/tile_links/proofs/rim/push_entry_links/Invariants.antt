use Rattle.std.proofs.Common.{◌≡◌, ◌++◌}
use Rattle.std.specs.List.{flat_map, range_with_len}
use Rattle.tile_links.specs.Loose.{place_links}
use Rattle.tile_links.proofs.rim.push_entry_links.Given as goal

-- the links from the places so far
abbrev pub invariant-loop-place : goal.invariant-loop-place
invariant-loop-place l = l.links.items ≡ l.initial.links.items ++ flat_map (place_links l.border.tile.now l.border.across.now l.border.side l.entry l.places) (range_with_len 0 l.place)
