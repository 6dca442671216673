use Rattle.std.proofs.Common.{length, ◌-◌, ◌≤◌}
use Rattle.std.specs.List.{count_by}
use Rattle.mesh_types.specs.LinkIndex.{is_before_polygon}
use Rattle.mesh_types.proofs.links.start_from.Given as goal

-- the links so far leave earlier polygons
abbrev pub invariant-loop-start : goal.invariant-loop-start
invariant-loop-start l = l.start ≤ count_by (is_before_polygon l.polygon) l.links

abbrev pub decreases-loop-start : goal.decreases-loop-start
decreases-loop-start l = length l.links - l.start
