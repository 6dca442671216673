use Rattle.std.proofs.Common.{◌≡◌, ◌-◌, ◌≤◌, ◌++◌, drop, length}
use Rattle.tile_links.proofs.join.push_earlier.Given as goal

-- with those that are left the links are what they were
abbrev pub invariant-loop-next : goal.invariant-loop-next
invariant-loop-next l = record {
  within : l.next ≤ length l.found;
  moved : l.links.items ++ drop l.next l.found ≡ l.fn.links.items ++ drop l.first l.found;
}

abbrev pub decreases-loop-next : goal.decreases-loop-next
decreases-loop-next l = length l.found - l.next
