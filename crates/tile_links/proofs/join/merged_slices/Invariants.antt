use Rattle.std.proofs.Common.{◌≤◌, ◌++◌, take, drop, length}
use Rattle.tile_links.specs.Loose.{HasGained}
use Rattle.tile_links.proofs.join.merged_slices.Given as goal

-- with those that are left the links are the known ones so far and all that were found
abbrev pub invariant-loop-link : goal.invariant-loop-link
invariant-loop-link l = record {
  within : l.taken ≤ length l.found;
  gained : HasGained (take l.link-index l.known) l.found (l.links.items ++ drop l.taken l.found);
}
