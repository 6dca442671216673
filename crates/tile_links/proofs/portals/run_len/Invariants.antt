use Rattle.std.proofs.Common.{◌≡◌, ◌+◌, ◌-◌, ◌≤◌, drop, length}
use Rattle.std.specs.List.{prefix_len}
use Rattle.mesh_types.specs.Runs.{has_label}
use Rattle.mesh_types.specs.BorderLinks.{meetings}
use Rattle.tile_links.proofs.portals.run_len.Given as goal

-- the entries meet at the places so far, and what is left has the others of the first ones where they do
abbrev pub invariant-loop-end : goal.invariant-loop-end
invariant-loop-end l = record {
  after : l.first ≤ l.end;
  within : l.end ≤ length l.entry.pairs;
  same : l.end + prefix_len (has_label 0) (drop l.end (meetings l.entry l.other)) ≡ l.first + prefix_len (has_label 0) (drop l.first (meetings l.entry l.other));
}

abbrev pub decreases-loop-end : goal.decreases-loop-end
decreases-loop-end l = length l.entry.pairs - l.end
