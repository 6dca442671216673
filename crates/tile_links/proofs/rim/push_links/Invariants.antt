use Rattle.std.proofs.Common.{◌≡◌, ◌++◌, take}
use Rattle.std.specs.List.{flat_map}
use Rattle.mesh_types.specs.BorderLinks.{along_side}
use Rattle.tile_links.specs.Loose.{placed_links}
use Rattle.tile_links.proofs.rim.push_links.Given as goal

-- the links from the entries so far
abbrev pub invariant-loop-entry : goal.invariant-loop-entry
invariant-loop-entry l =
    l.links.items ≡ l.initial.links.items ++ flat_map (placed_links l.a l.b l.side l.across) (along_side l.side (take l.entry-index l.a.rim))
