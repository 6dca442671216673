use Rattle.std.proofs.Common.{◌≡◌, ◌≤◌, take, length}
use Rattle.mesh_types.specs.BorderLinks.{along_side}
use Rattle.tile_links.proofs.join.count_along.Given as goal

-- those of the entries so far are counted
abbrev pub invariant-loop-entry : goal.invariant-loop-entry
invariant-loop-entry l = record {
  most : l.count ≤ l.entry-index;
  same : l.count ≡ length (along_side l.side (take l.entry-index l.rim));
}
