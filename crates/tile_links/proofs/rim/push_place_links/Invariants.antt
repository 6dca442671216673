use Rattle.std.proofs.Common.{◌≡◌, ◌++◌, take}
use Rattle.std.specs.List.{flat_map}
use Rattle.tile_links.specs.Loose.{run_links}
use Rattle.tile_links.proofs.rim.push_place_links.Given as goal

-- the links by the places across so far
abbrev pub invariant-loop-found : goal.invariant-loop-found
invariant-loop-found l = l.links.items ≡ l.initial.links.items ++ flat_map (run_links l.border.tile.now l.border.across.now l.border.side l.entry l.place) (take l.found-index l.across)
